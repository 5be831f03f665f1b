-- The texts of a route's fields.
use Rattle.std.proofs.Common.{◌≡◌, ◌≢◌, ℕ, suc, ◌+◌, ◌/◌, ◌%◌, ◌<◌, ◌^◌, List, [], ◌∷◌, ◌++◌, length, flat_map, take, drop, decimal, refl, sym, ap, subst, ◌∙◌, ⊎_elim, append_assoc, length-append, length-drop, arith, Option, Some, None, IfSome, Bool, true, false, eqb, ◌-◌}
use borrow.Rule.Slice.PartMut.{put_mid, post_of}
use Rattle.std.specs.Int.{IsInRange}
use Rattle.std.specs.List.{AllByRecursion}
use Rattle.std.specs.Char.{digit_char}
use Rattle.std.specs.Net.Text.{ipv4_text}
use Rattle.std.specs.Net.Grammar.{IsDotted}
use Rattle.std.proofs.NetLemmas.Alphabet.{IsDigitOrDot, IsHexOrColon}
use Rattle.std.proofs.lemmas.Bool.{false≢true}
use Rattle.std.proofs.lemmas.Bool.Decides.{nat_tests, Decides-eqb}
use Rattle.std.proofs.lemmas.Fmt.{decimal_nonempty}
use Rattle.std.proofs.lemmas.List.{take_at, drop_at, append-nil, nil_from_length, get_or-take, get_or-drop, length-take-le, get_or_past}
use Rattle.route_model.specs.declared.address.Address.{Address}
use Rattle.route_model.specs.declared.address.Address.TheVariants.{V4, V6}
use Rattle.route_model.specs.declared.attribute.Attribute.{Attribute}
use Rattle.route_model.specs.declared.route.Aggregator.{Aggregator}
use Rattle.route_model.specs.declared.route.NextHop.{NextHop}
use Rattle.route_model.specs.declared.route.NextHop.TheVariants.{One, Pair}
use Rattle.route_model.specs.Address.{IsAddress}
use Rattle.route_model.specs.Octets.{AreOctets}
use Rattle.route_model.specs.Encoding.{IsAggregator, IsNextHop, IsAttribute}
use Rattle.route_text.specs.AddressText.{address_text, ipv6_text, IsIpv6Text, IsAddressText}
use Rattle.route_text.specs.Octets.{Lacks}
use Rattle.route_text.specs.RouteText.{next_hop_text, optional_text, aggregator_text, octet_text, attribute_text, attributes_text}
use Rattle.route_text.proofs.api.Addresses.{IsDotted-written, IsIpv6Text-ipv6_text, Lacks-ipv4_text, Lacks-ipv6_text}
use Rattle.route_text.proofs.Cuts.{Lacks-nil, Lacks-cons, Lacks-append, Lacks-same}
use Rattle.route_text.proofs.Numbers.{Lacks-decimal}

-- ---- two addresses in one list

pub pair_filled : (g l zs : List ℕ) → length g ≡ 16 → length l ≡ 16 → length zs ≡ 16 → put_mid 16 16 (g ++ zs) l ≡ g ++ l
pair_filled g l zs p q r =
    let front = take_at g zs 16 p in
    let back : post_of 16 16 (g ++ zs) ≡ [] = nil_from_length (post_of 16 16 (g ++ zs)) (simp (length-drop, length-append) (omega arith)) in
    (λ i. front i ++ (l ++ back i)) ∙ ap (λ t. g ++ t) (append-nil l)

-- ---- addresses

pub address_text_read : (a : Address) → IsAddress a → IsAddressText (address_text a) a
address_text_read (V4 o) h = IsDotted-written o h.0 h.1
address_text_read (V6 o) h = IsIpv6Text-ipv6_text o h.0 h.1

-- an octet that is no hexadecimal digit, dot or colon
pub Lacks-address_text : (c : ℕ) → (IsDigitOrDot c → ⊥) → (IsHexOrColon c → ⊥) → (a : Address) → IsAddress a → Lacks c (address_text a)
Lacks-address_text c dot colon (V4 o) h = Lacks-ipv4_text c o h.1 dot
Lacks-address_text c dot colon (V6 o) h = Lacks-ipv6_text c o h.1 colon

pub take_octets : (n : ℕ) (o : List ℕ) → AreOctets o → AreOctets (take n o)
take_octets n o h i = ⊎_elim (λ low. subst (λ (x : ℕ). x < 256) (sym (get_or-take n o i 0 low)) (h i)) (λ high. subst (λ (x : ℕ). x < 256) (sym (get_or_past (take n o) i 0 (omega (arith, Rattle.std.proofs.lemmas.List.length-take n o)))) (omega arith)) (Rattle.std.proofs.lemmas.Bool.cases_lt i n)

pub drop_octets : (n : ℕ) (o : List ℕ) → AreOctets o → AreOctets (drop n o)
drop_octets n o h i = subst (λ (x : ℕ). x < 256) (sym (get_or-drop n o i 0)) (h (n + i))

pub record IsPair (text o : List ℕ) : Type 0 where
  pub text_is : text ≡ ipv6_text (take 16 o) ++ 32 ∷ ipv6_text (drop 16 o)
  pub no_space : Lacks 32 (ipv6_text (take 16 o))
  pub global : IsIpv6Text (ipv6_text (take 16 o)) (take 16 o)
  pub local : IsIpv6Text (ipv6_text (drop 16 o)) (drop 16 o)

pub pair_text : (text o : List ℕ) → length o ≡ 32 → AreOctets o → text ≡ next_hop_text (Pair o) → IsPair text o
pair_text text o size octets e = record {
  text_is = e ∙ append_assoc (ipv6_text (take 16 o)) (32 ∷ []) (ipv6_text (drop 16 o));
  no_space = Lacks-ipv6_text 32 (take 16 o) (take_octets 16 o octets) (λ h. ⊎_elim (λ d. omega arith) (λ d. omega arith) h);
  global = IsIpv6Text-ipv6_text (take 16 o) (length-take-le 16 o (omega arith)) (take_octets 16 o octets);
  local = IsIpv6Text-ipv6_text (drop 16 o) (omega (arith, length-drop 16 o)) (drop_octets 16 o octets);
}

-- the next hop that a text without a space writes, and with one
pub data Hop (text : List ℕ) (hop : NextHop) : Type 0 where
  one : (a : Address) → hop ≡ One a → IsAddress a → IsAddressText text a → Lacks 32 text → Hop text hop
  pair : (o : List ℕ) → hop ≡ Pair o → IsPair text o → Hop text hop

pub hop_text : (text : List ℕ) (hop : NextHop) → IsNextHop hop → text ≡ next_hop_text hop → Hop text hop
hop_text text (One a) h e = one a refl h (subst (λ (t : List ℕ). IsAddressText t a) (sym e) (address_text_read a h)) (Lacks-same 32 (address_text a) text (sym e) (Lacks-address_text 32 (λ d. ⊎_elim (λ r. omega arith) (λ r. omega arith) d) (λ d. ⊎_elim (λ r. omega arith) (λ r. omega arith) d) a h))
hop_text text (Pair o) h e = pair o refl (pair_text text o h.0 h.1 e)

pub pair_valid : (g l : List ℕ) → length g ≡ 16 → length l ≡ 16 → AreOctets g → AreOctets l → IsNextHop (Pair (g ++ l))
pair_valid g l p q h k = (omega (arith, length-append g l), at)
  where
    at : AreOctets (g ++ l)
    at i = ⊎_elim (λ low. subst (λ (x : ℕ). x < 256) (sym (Rattle.std.proofs.lemmas.List.get_or_append_left g l 0 i low)) (h i)) (λ high. subst (λ (x : ℕ). x < 256) (sym (Rattle.std.proofs.lemmas.List.get_or-append_right g l (length g) i 0 refl high)) (k (i - length g))) (Rattle.std.proofs.lemmas.Bool.cases_lt i (length g))

pub pair_at : (whole g l : List ℕ) → whole ≡ g ++ l → IsNextHop (Pair (g ++ l)) → IsNextHop (Pair whole)
pair_at whole g l e h = subst (λ (o : List ℕ). IsNextHop (Pair o)) (sym e) h

-- ---- empty texts

pub is_nil : (text : List ℕ) (r : Bool) → r ≡ eqb (length text) 0 → r ≡ true → text ≡ []
is_nil text r e t = nil_from_length text ((Decides-eqb (length text) 0).0 (sym e ∙ t))

pub not_nil : (text : List ℕ) (r : Bool) → r ≡ eqb (length text) 0 → r ≡ false → text ≢ []
not_nil text r e f same = false≢true (sym f ∙ e ∙ (Decides-eqb (length text) 0).1 (ap length same))

decimal_some : (n : ℕ) → n < 2 ^ 64 → decimal n ≢ []
decimal_some n fits e = let some = decimal_nonempty n fits in let none = ap length e in omega arith

decimal_more : (n : ℕ) (rest : List ℕ) → n < 2 ^ 64 → decimal n ++ rest ≢ []
decimal_more n rest fits e = let some = decimal_nonempty n fits in let none = ap length e in omega (arith, length-append (decimal n) rest)

pub optional_none : (text : List ℕ) (number : Option ℕ) → text ≡ [] → IfSome number (λ n. n < 2 ^ 32) → text ≡ optional_text number → number ≡ None
optional_none text None nil h e = refl
optional_none text (Some n) nil h e = absurd (decimal_some n (omega arith) (sym e ∙ nil))

-- ---- aggregators

pub record IsAggregatorText (text : List ℕ) (aggregator : Option Aggregator) : Type 0 where
  pub value : Aggregator
  pub is : aggregator ≡ Some value
  pub valid : IsAggregator value
  pub text_is : text ≡ decimal value.as_number ++ 32 ∷ ipv4_text value.address
  pub no_space : Lacks 32 (decimal value.as_number)
  pub address : IsDotted (ipv4_text value.address) value.address

pub aggregator_parts : (text : List ℕ) (aggregator : Option Aggregator) → text ≢ [] → IfSome aggregator IsAggregator → text ≡ aggregator_text aggregator → IsAggregatorText text aggregator
aggregator_parts text None some h e = absurd (some e)
aggregator_parts text (Some a) some h e = record {
  value = a;
  is = refl;
  valid = h;
  text_is = e ∙ append_assoc (decimal a.as_number) (32 ∷ []) (ipv4_text a.address);
  no_space = Lacks-decimal 32 a.as_number (let fits = h.as_number in omega arith) (λ d. omega arith);
  address = IsDotted-written a.address h.address h.octets;
}

pub aggregator_none : (text : List ℕ) (aggregator : Option Aggregator) → text ≡ [] → IfSome aggregator IsAggregator → text ≡ aggregator_text aggregator → aggregator ≡ None
aggregator_none text None nil h e = refl
aggregator_none text (Some a) nil h e = absurd (decimal_more a.as_number (32 ∷ ipv4_text a.address) (let fits = h.as_number in omega arith) (sym (append_assoc (decimal a.as_number) (32 ∷ []) (ipv4_text a.address)) ∙ sym e ∙ nil))

-- ---- attributes

digit_is_hex : (d : ℕ) → d < 16 → IsHexOrColon (digit_char d)
digit_is_hex d h = grind (arith, nat_tests)

Lacks-octet_text : (c : ℕ) → (IsHexOrColon c → ⊥) → (o : ℕ) → o < 256 → Lacks c (octet_text o)
Lacks-octet_text c other o fits =
    let high = digit_is_hex (o / 16) (omega arith) in
    let low = digit_is_hex (o % 16) (omega arith) in
    Lacks-cons c _ _ (λ e. other (subst IsHexOrColon e high)) (Lacks-cons c _ _ (λ e. other (subst IsHexOrColon e low)) (Lacks-nil c))

Lacks-octets : (c : ℕ) → (IsHexOrColon c → ⊥) → (os : List ℕ) → AreOctets os → Lacks c (flat_map octet_text os)
Lacks-octets c other [] h = Lacks-nil c
Lacks-octets c other (o ∷ os) h = Lacks-append c (octet_text o) (flat_map octet_text os) (Lacks-octet_text c other o (h 0)) (Lacks-octets c other os (λ i. h (suc i)))

pub record IsAttributeText (text : List ℕ) (a : Attribute) : Type 0 where
  pub text_is : text ≡ decimal a.kind ++ 47 ∷ (octet_text a.flags ++ 47 ∷ flat_map octet_text a.value)
  pub no_slash : Lacks 47 (decimal a.kind)
  pub no_second : Lacks 47 (octet_text a.flags)

pub attribute_parts : (text : List ℕ) (a : Attribute) → IsAttribute a → text ≡ attribute_text a → IsAttributeText text a
attribute_parts text a h e = record {
  text_is = e ∙ simp append_assoc;
  no_slash = Lacks-decimal 47 a.kind (let small = h.kind in omega arith) (λ d. omega arith);
  no_second = Lacks-octet_text 47 (λ d. ⊎_elim (λ r. omega arith) (λ r. omega arith) d) a.flags h.flags;
}

pub Lacks-attribute_text : (c : ℕ) → (IsInRange 48 57 c → ⊥) → 47 ≢ c → (IsHexOrColon c → ⊥) → (a : Attribute) → IsAttribute a → Lacks c (attribute_text a)
Lacks-attribute_text c digit slash hex a h =
    Lacks-append c _ _ (Lacks-append c _ _ (Lacks-append c _ _ (Lacks-append c _ _ (Lacks-decimal c a.kind (let small = h.kind in omega arith) digit) (Lacks-cons c 47 [] slash (Lacks-nil c))) (Lacks-octet_text c hex a.flags h.flags)) (Lacks-cons c 47 [] slash (Lacks-nil c))) (Lacks-octets c hex a.value h.octets)

attribute_some : (a : Attribute) → IsAttribute a → attribute_text a ≢ []
attribute_some a h e = decimal_more a.kind _ (let small = h.kind in omega arith) (sym (attribute_parts (attribute_text a) a h refl).text_is ∙ e)

pub attributes_none : (text : List ℕ) (others : List Attribute) → text ≡ [] → AllByRecursion IsAttribute others → text ≡ attributes_text others → others ≡ []
attributes_none text [] nil h e = refl
attributes_none text (a ∷ []) nil h e = absurd (attribute_some a h.0 (sym e ∙ nil))
attributes_none text (a ∷ b ∷ others) nil h e = absurd (let none = ap length (sym e ∙ nil) in omega (arith, length-append (attribute_text a) (32 ∷ attributes_text (b ∷ others))))

pub attributes_some : (text : List ℕ) (others : List Attribute) → text ≢ [] → text ≡ attributes_text others → 0 < length others
attributes_some text [] some e = absurd (some e)
attributes_some text (a ∷ others) some e = omega arith
