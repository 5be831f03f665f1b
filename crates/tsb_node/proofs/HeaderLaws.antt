-- Headers: the octets that are read are the encoding of what they read as.
use Rattle.std.proofs.Common.{◌≡◌, ℕ, zero, suc, ◌+◌, ◌*◌, ◌^◌, ◌<◌, ◌≤◌, List, [], ◌∷◌, ◌++◌, length, take, drop, replicate, slice_index, Option, Some, None, refl, sym, ap, subst, ◌∙◌, arith}
use Rattle.std.specs.Option.{IfSome}
use Rattle.std.proofs.Math.Nat.{pow-suc}
use Rattle.std.proofs.lemmas.Bool.{cases_order}
use Rattle.std.proofs.Common.{inl, inr}
use Rattle.std.proofs.lemmas.List.{length-take, length-drop, length-replicate, take-append-drop, take-take, drop-take}
use Rattle.route_model.specs.Octets.{AreOctets}
use Rattle.route_model.specs.Keys.{number_of}
use Rattle.route_model.proofs.api.KeyNumbers.{number_lt, number_one}
use Rattle.tsb_node.specs.Numbers.{octets_of, bound_octets}
use Rattle.tsb_node.specs.inner.Fields.{number_in}
use Rattle.tsb_node.specs.Nodes.{header}
use Rattle.tsb_node.specs.Headers.{HasHeader}
use Rattle.tsb_node.specs.declared.header.Header.{Header}
use Rattle.version_model.specs.declared.bounds.Bounds.{Bounds}
use Rattle.tsb_node.proofs.NumberLaws.{octets_of-number, octets_of-again}
use Rattle.tsb_node.proofs.Leaves.{HasHeaderOf, header_represents}

pub are-drop : (n : ℕ) (xs : List ℕ) → AreOctets xs → AreOctets (drop n xs)
are-drop zero xs are = are
are-drop (suc n) [] are = are
are-drop (suc n) (x ∷ xs) are = are-drop n xs (λ i. are (suc i))

pub are-take : (n : ℕ) (xs : List ℕ) → AreOctets xs → AreOctets (take n xs)
are-take zero xs are i = omega arith
are-take (suc n) [] are i = omega arith
are-take (suc n) (x ∷ xs) are zero = are 0
are-take (suc n) (x ∷ xs) are (suc i) = are-take n xs (λ j. are (suc j)) i

-- the `size` octets from a place on are the encoding of their number
pub again_in : (size place : ℕ) (octets : List ℕ) → AreOctets octets → place + size ≤ length octets → octets_of size (number_in size place octets) ≡ take size (drop place octets)
again_in size place octets are le =
    octets_of-again size (take size (drop place octets)) (omega (arith, length-take size (drop place octets), length-drop place octets)) (are-take size (drop place octets) (are-drop place octets are))

pub number_in-lt : (size place : ℕ) (octets : List ℕ) → AreOctets octets → place + size ≤ length octets → number_in size place octets < 256 ^ size
number_in-lt size place octets are le =
    subst (λ (n : ℕ). number_in size place octets < 256 ^ n) (let e : length (take size (drop place octets)) ≡ size = omega (arith, length-take size (drop place octets), length-drop place octets) in e)
    (number_lt (take size (drop place octets)) (are-take size (drop place octets) (are-drop place octets are)))

-- ---- bounds that may be missing

pub ones-each : (n : ℕ) → AreOctets (replicate n 255)
ones-each zero i = omega arith
ones-each (suc n) zero = omega arith
ones-each (suc n) (suc i) = ones-each n i

pub ones-number : (n : ℕ) → number_of (replicate n 255) + 1 ≡ 256 ^ n
unfolding number_of
ones-number zero = omega arith
ones-number (suc n) =
    let size : length (replicate n 255) ≡ n = length-replicate {A = ℕ} n 255 in
    let power : 256 ^ suc n ≡ 256 ^ n * 256 = pow-suc 256 n in
    rw size (omega (arith, ones-number n, power))

-- a bound is read
pub bound_none : (size place : ℕ) (octets : List ℕ) → AreOctets octets → place + size ≤ length octets → number_in size place octets ≡ number_of (replicate size 255) → bound_octets size None ≡ take size (drop place octets)
unfolding bound_octets
bound_none size place octets are le same =
    let len : length (take size (drop place octets)) ≡ size = omega (arith, length-take size (drop place octets), length-drop place octets) in
    number_one (replicate size 255) (take size (drop place octets)) (length-replicate {A = ℕ} size 255 ∙ sym len) (ones-each size) (are-take size (drop place octets) (are-drop place octets are)) (sym same)

pub bound_some : (size place : ℕ) (octets : List ℕ) → AreOctets octets → place + size ≤ length octets → bound_octets size (Some (number_in size place octets)) ≡ take size (drop place octets)
unfolding bound_octets
bound_some size place octets are le = again_in size place octets are le

pub bound_apart : (size place : ℕ) (octets : List ℕ) → AreOctets octets → place + size ≤ length octets → (number_in size place octets ≡ number_of (replicate size 255) → ⊥) → number_in size place octets + 1 < 256 ^ size
bound_apart size place octets are le never =
    let n : ℕ = number_in size place octets in
    let lt : n < 256 ^ size = number_in-lt size place octets are le in
    let top = ones-number size in
    elim (cases_order n (number_of (replicate size 255))) [
      | inl same ↦ absurd (never same)
      | inr other ↦ omega (arith, lt, top, other)
    ]

-- a bound has one encoding
pub bound_one : (size : ℕ) (a b : Option ℕ) → IfSome a (λ n. n + 1 < 256 ^ size) → IfSome b (λ n. n + 1 < 256 ^ size) → bound_octets size a ≡ bound_octets size b → a ≡ b
unfolding bound_octets
bound_one size None None p q e = refl
bound_one size None (Some n) p q e = absurd (omega (arith, q, ones-number size, ap number_of e ∙ octets_of-number size n (omega (arith, q))))
bound_one size (Some m) None p q e = absurd (omega (arith, p, ones-number size, ap number_of (sym e) ∙ octets_of-number size m (omega (arith, p))))
bound_one size (Some m) (Some n) p q e = ap Some (sym (octets_of-number size m (omega (arith, p))) ∙ ap number_of e ∙ octets_of-number size n (omega (arith, q)))

-- ---- the whole header

pub take_on : (a b : ℕ) (xs : List ℕ) → take (a + b) xs ≡ take a xs ++ take b (drop a xs)
take_on a b xs =
    sym (take-append-drop a (take (a + b) xs)) ∙ ap (λ (t : List ℕ). t ++ drop a (take (a + b) xs)) (take-take a (a + b) xs (omega arith)) ∙ ap (λ (t : List ℕ). take a xs ++ t) (drop-take a b xs)

four : (xs : List ℕ) → 4 ≤ length xs → take 4 xs ≡ slice_index xs 0 ∷ slice_index xs 1 ∷ slice_index xs 2 ∷ slice_index xs 3 ∷ []
four [] le = absurd (omega arith)
four (a ∷ []) le = absurd (omega arith)
four (a ∷ b ∷ []) le = absurd (omega arith)
four (a ∷ b ∷ c ∷ []) le = absurd (omega arith)
four (a ∷ b ∷ c ∷ d ∷ xs) le = refl

-- what octets represent as a header, with these bounds at its ends
abbrev pub bounds_in : List ℕ → Option ℕ → Option ℕ → Bounds
bounds_in octets high end = record { low = number_in 40 8 octets; high = high; start = number_in 16 88 octets; end = end }

pub header_encoded : (octets : List ℕ) (high end : Option ℕ) → AreOctets octets → 120 ≤ length octets → slice_index octets 3 ≡ 0
    → bound_octets 40 high ≡ take 40 (drop 48 octets) → bound_octets 16 end ≡ take 16 (drop 104 octets)
    → take 120 octets ≡ header (slice_index octets 0) (slice_index octets 1) (slice_index octets 2) (number_in 2 4 octets) (number_in 2 6 octets) (bounds_in octets high end)
unfolding header
header_encoded octets high end are le zero_zero high_is end_is =
    let e0 : take 4 octets ≡ slice_index octets 0 ∷ slice_index octets 1 ∷ slice_index octets 2 ∷ 0 ∷ [] =
    four octets (omega arith) ∙ ap (λ (n : ℕ). slice_index octets 0 ∷ slice_index octets 1 ∷ slice_index octets 2 ∷ n ∷ []) zero_zero in
    let f1 = again_in 2 4 octets are (omega arith) in
    let f2 = again_in 2 6 octets are (omega arith) in
    let f3 = again_in 40 8 octets are (omega arith) in
    let f5 = again_in 16 88 octets are (omega arith) in
    rw (take_on 104 16 octets, take_on 88 16 octets, take_on 48 40 octets, take_on 8 40 octets, take_on 6 2 octets, take_on 4 2 octets, e0, f1, f2, f3, f5, high_is, end_is) refl

-- an encoded header reads as its fields
pub has_represents : (h : Header) (octets : List ℕ) → HasHeader h octets → HasHeaderOf h.kind h.unit h.level h.count h.used h.bounds octets
has_represents h octets has =
    subst (HasHeaderOf h.kind h.unit h.level h.count h.used h.bounds) (ap (λ (t : List ℕ). t ++ drop 120 octets) (sym has.encoded) ∙ take-append-drop 120 octets)
    (header_represents h.kind h.unit h.level h.count h.used h.bounds (drop 120 octets) has.count has.used has.bounds.low has.bounds.start)

pub both_some : (P Q : ℕ → Type 0) (o : Option ℕ) → IfSome o P → IfSome o Q → IfSome o (λ n. P n × Q n)
both_some P Q None p q = tt
both_some P Q (Some n) p q = (p, q)

pub first_some : (P Q : ℕ → Type 0) (o : Option ℕ) → IfSome o (λ n. P n × Q n) → IfSome o P
first_some P Q None p = tt
first_some P Q (Some n) p = p.0

pub second_some : (P Q : ℕ → Type 0) (o : Option ℕ) → IfSome o (λ n. P n × Q n) → IfSome o Q
second_some P Q None p = tt
second_some P Q (Some n) p = p.1

pub has_header : (octets : List ℕ) (kind unit level count used low start : ℕ) (high end : Option ℕ) → AreOctets octets → 120 ≤ length octets → slice_index octets 3 ≡ 0
    → kind ≡ slice_index octets 0 → unit ≡ slice_index octets 1 → level ≡ slice_index octets 2 → count ≡ number_in 2 4 octets → used ≡ number_in 2 6 octets → low ≡ number_in 40 8 octets → start ≡ number_in 16 88 octets
    → bound_octets 40 high ≡ take 40 (drop 48 octets) → bound_octets 16 end ≡ take 16 (drop 104 octets)
    → IfSome high (λ n. n + 1 < 256 ^ 40) → IfSome end (λ n. n + 1 < 256 ^ 16) → IfSome high (λ n. low < n) → IfSome end (λ n. start < n)
    → HasHeader (record { kind = kind; unit = unit; level = level; count = count; used = used; bounds = record { low = low; high = high; start = start; end = end } }) octets
has_header octets kind unit level count used low start high end are le z k u l c s lo st hi en ha ea hb eb = record {
  bounds = record {
    low = rw lo (number_in-lt 40 8 octets are (omega arith));
    start = rw st (number_in-lt 16 88 octets are (omega arith));
    order = record { high = both_some (λ n. n + 1 < 256 ^ 40) (λ n. low < n) high ha hb; end = both_some (λ n. n + 1 < 256 ^ 16) (λ n. start < n) end ea eb };
  };
  count = rw c (number_in-lt 2 4 octets are (omega arith));
  used = rw s (number_in-lt 2 6 octets are (omega arith));
  encoded = rw (k, u, l, c, s, lo, st) (header_encoded octets high end are le z hi en);
}

-- the bounds that are read are those of the header
pub high_is : (h : Header) (octets : List ℕ) (high : Option ℕ) → HasHeader h octets → bound_octets 40 high ≡ take 40 (drop 48 octets) → IfSome high (λ n. n + 1 < 256 ^ 40) → high ≡ h.bounds.high
high_is h octets high has e p = bound_one 40 high h.bounds.high p (first_some (λ n. n + 1 < 256 ^ 40) (λ n. h.bounds.low < n) h.bounds.high has.bounds.order.high) (e ∙ (has_represents h octets has).high_is)

pub end_is : (h : Header) (octets : List ℕ) (end : Option ℕ) → HasHeader h octets → bound_octets 16 end ≡ take 16 (drop 104 octets) → IfSome end (λ n. n + 1 < 256 ^ 16) → end ≡ h.bounds.end
end_is h octets end has e p = bound_one 16 end h.bounds.end p (first_some (λ n. n + 1 < 256 ^ 16) (λ n. h.bounds.start < n) h.bounds.end has.bounds.order.end) (e ∙ (has_represents h octets has).end_is)

-- so they are in order
pub high_fits : (h : Header) (octets : List ℕ) (low : ℕ) (high : Option ℕ) → HasHeader h octets → low ≡ number_in 40 8 octets → bound_octets 40 high ≡ take 40 (drop 48 octets) → IfSome high (λ n. n + 1 < 256 ^ 40) → IfSome high (λ n. low < n)
high_fits h octets low high has lo e p =
    let l : low ≡ h.bounds.low = lo ∙ (has_represents h octets has).low_is in
    rw (high_is h octets high has e p, l) (second_some (λ n. n + 1 < 256 ^ 40) (λ n. h.bounds.low < n) h.bounds.high has.bounds.order.high)

pub end_fits : (h : Header) (octets : List ℕ) (start : ℕ) (end : Option ℕ) → HasHeader h octets → start ≡ number_in 16 88 octets → bound_octets 16 end ≡ take 16 (drop 104 octets) → IfSome end (λ n. n + 1 < 256 ^ 16) → IfSome end (λ n. start < n)
end_fits h octets start end has st e p =
    let s : start ≡ h.bounds.start = st ∙ (has_represents h octets has).start_is in
    rw (end_is h octets end has e p, s) (second_some (λ n. n + 1 < 256 ^ 16) (λ n. h.bounds.start < n) h.bounds.end has.bounds.order.end)

pub ones_stamp : number_of (replicate 16 255) ≡ 340282366920938463463374607431768211455
ones_stamp = omega (arith, ones-number 16)
