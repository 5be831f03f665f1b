-- The order of keys by their octets.
use Rattle.std.proofs.Common.{◌≡◌, ℕ, ◌+◌, ◌*◌, ◌/◌, ◌%◌, ◌<◌, ◌≤◌, ◌^◌, List, [], ◌∷◌, ◌++◌, length, replicate, refl, sym, ap, ◌∙◌, arith, append_assoc, suc, zero, subst, Some, ltb, eqb, false, get_or}
use Rattle.std.specs.Int.{w32, to_be_bytes}
use Rattle.std.specs.declared.cmp.Ordering.{Ordering}
use Rattle.std.specs.Ordering.{nat_cmp, ordering_then}
use Rattle.std.specs.declared.cmp.Ordering.TheVariants.{Less, Equal, Greater}
use Rattle.std.specs.Cmp.Lexicographic.{slice_cmp}
use Rattle.std.proofs.lemmas.Bool.Decides.{nat_tests}
use Rattle.std.proofs.lemmas.List.{length-append}
use Rattle.route_model.specs.declared.address.Address.{Address}
use Rattle.route_model.specs.declared.address.Address.TheVariants.{V4, V6}
use Rattle.route_model.specs.declared.peer.Peer.{Peer}
use Rattle.route_model.specs.Address.{octets, family, wide, IsAddress}
use Rattle.route_model.specs.Prefix.{IpPrefix, IsPrefix}
use Rattle.route_model.specs.Encoding.{IsPeer, peer_octets}
use Rattle.route_model.specs.Keys.{number_of, prefix_key, key_number, session_number, key_octets, key_of, IsKeyParts, address_order, peer_order, prefix_order}
use Rattle.std.proofs.lemmas.Bool.{le-ltb}
use Rattle.route_model.specs.declared.key.KeyParts.{KeyParts}
use Rattle.route_model.specs.declared.key.KeyParts.TheVariants.{Session, Prefix as OfPrefix}
use Rattle.route_model.specs.Octets.{AreOctets}
use Rattle.route_model.specs.inner.Codec.Admissions.{parts_at}
use Rattle.route_model.proofs.Fields.{octets_again}
use Rattle.route_model.proofs.api.KeyNumbers.{number_cmp, number_one, cmp_less_is}
use Rattle.route_model.proofs.Peers.{length-wide, wide_again, peer_again}

then_assoc : (a b c : Ordering) → ordering_then (ordering_then a b) c ≡ ordering_then a (ordering_then b c)
then_assoc Less b c = refl
then_assoc Equal b c = refl
then_assoc Greater b c = refl

then-equal : (a : Ordering) → ordering_then a Equal ≡ a
then-equal Less = refl
then-equal Equal = refl
then-equal Greater = refl

cmp-append : (a b x y : List ℕ) → length a ≡ length b → slice_cmp nat_cmp (a ++ x) (b ++ y) ≡ ordering_then (slice_cmp nat_cmp a b) (slice_cmp nat_cmp x y)
cmp-append [] [] x y e = refl
cmp-append [] (c ∷ b) x y e = absurd (omega arith)
cmp-append (d ∷ a) [] x y e = absurd (omega arith)
cmp-append (d ∷ a) (c ∷ b) x y e = ap (ordering_then (nat_cmp d c)) (cmp-append a b x y (omega arith)) ∙ sym (then_assoc (nat_cmp d c) (slice_cmp nat_cmp a b) (slice_cmp nat_cmp x y))

nat_cmp_self : (n : ℕ) → nat_cmp n n ≡ Equal
nat_cmp_self n = grind (arith, nat_tests)

-- a last digit decides only between equal numbers
digit : (h g d e : ℕ) → d < 256 → e < 256 → nat_cmp (256 * h + d) (256 * g + e) ≡ ordering_then (nat_cmp h g) (nat_cmp d e)
digit h g d e ld le = grind (arith, nat_tests)

digits : (m n : ℕ) → nat_cmp m n ≡ ordering_then (nat_cmp (m / 256) (n / 256)) (nat_cmp (m % 256) (n % 256))
digits m n =
    let em : m ≡ 256 * (m / 256) + m % 256 = omega arith in
    let en : n ≡ 256 * (n / 256) + n % 256 = omega arith in
    ap (λ (k : ℕ). nat_cmp k n) em ∙ ap (λ (k : ℕ). nat_cmp (256 * (m / 256) + m % 256) k) en ∙ digit (m / 256) (n / 256) (m % 256) (n % 256) (omega arith) (omega arith)

regroup : (a b c d : Ordering) → ordering_then a (ordering_then b (ordering_then c (ordering_then d Equal))) ≡ ordering_then (ordering_then (ordering_then a b) c) d
regroup Less b c d = refl
regroup Greater b c d = refl
regroup Equal Less c d = refl
regroup Equal Greater c d = refl
regroup Equal Equal Less d = refl
regroup Equal Equal Greater d = refl
regroup Equal Equal Equal d = then-equal d

number_order : (m n : ℕ) → m < 2 ^ 32 → n < 2 ^ 32 → slice_cmp nat_cmp (to_be_bytes w32 m) (to_be_bytes w32 n) ≡ nat_cmp m n
number_order m n lm ln =
    let top_m : m / 256 / 256 / 256 ≡ m / 16777216 % 256 = omega arith in
    let top_n : n / 256 / 256 / 256 ≡ n / 16777216 % 256 = omega arith in
    let mid_m : m / 256 / 256 ≡ m / 65536 = omega arith in
    let mid_n : n / 256 / 256 ≡ n / 65536 = omega arith in
    let high : nat_cmp (m / 256 / 256) (n / 256 / 256) ≡ ordering_then (nat_cmp (m / 16777216 % 256) (n / 16777216 % 256)) (nat_cmp (m / 65536 % 256) (n / 65536 % 256)) =
    digits (m / 256 / 256) (n / 256 / 256) ∙ rw (top_m, top_n, mid_m, mid_n) refl in
    let upper = digits (m / 256) (n / 256) ∙ ap (λ (o : Ordering). ordering_then o (nat_cmp (m / 256 % 256) (n / 256 % 256))) high in
    let all = digits m n ∙ ap (λ (o : Ordering). ordering_then o (nat_cmp (m % 256) (n % 256))) upper in
    regroup (nat_cmp (m / 16777216 % 256) (n / 16777216 % 256)) (nat_cmp (m / 65536 % 256) (n / 65536 % 256)) (nat_cmp (m / 256 % 256) (n / 256 % 256)) (nat_cmp (m % 256) (n % 256)) ∙ sym all

length-peer : (p : Peer) → IsPeer p → length (peer_octets p) ≡ 22
length-peer p is = omega (arith, length-wide p.address is.address, length-append (wide p.address) (to_be_bytes w32 p.as_number))

wide_order : (a b : Address) → IsAddress a → IsAddress b → ordering_then (nat_cmp (family a) (family b)) (slice_cmp nat_cmp (wide a) (wide b)) ≡ address_order a b
wide_order (V4 o) (V4 q) la lb = cmp-append o q (replicate 12 0) (replicate 12 0) (omega (arith, la.0, lb.0)) ∙ then-equal (slice_cmp nat_cmp o q)
wide_order (V4 o) (V6 q) la lb = refl
wide_order (V6 o) (V4 q) la lb = refl
wide_order (V6 o) (V6 q) la lb = refl

peers_in_order : (p q : Peer) → IsPeer p → IsPeer q → slice_cmp nat_cmp (peer_octets p) (peer_octets q) ≡ peer_order p q
peers_in_order p q ip iq =
    let tail = cmp-append (wide p.address) (wide q.address) (to_be_bytes w32 p.as_number) (to_be_bytes w32 q.as_number) (length-wide p.address ip.address ∙ sym (length-wide q.address iq.address)) in
    ap (λ (o : Ordering). ordering_then (nat_cmp p.collector q.collector) (ordering_then (nat_cmp (family p.address) (family q.address)) o)) (tail ∙ ap (ordering_then (slice_cmp nat_cmp (wide p.address) (wide q.address))) (number_order p.as_number q.as_number ip.as_number iq.as_number))
    ∙ ap (ordering_then (nat_cmp p.collector q.collector)) (sym (then_assoc (nat_cmp (family p.address) (family q.address)) (slice_cmp nat_cmp (wide p.address) (wide q.address)) (nat_cmp p.as_number q.as_number)) ∙ ap (λ (o : Ordering). ordering_then o (nat_cmp p.as_number q.as_number)) (wide_order p.address q.address ip.address iq.address))

abbrev ending : IpPrefix → List ℕ
ending x = family x.address ∷ wide x.address ++ x.length ∷ []

prefixes_in_order : (x y : IpPrefix) → IsPrefix x → IsPrefix y → slice_cmp nat_cmp (ending x) (ending y) ≡ prefix_order x y
prefixes_in_order x y ix iy =
    let tail = cmp-append (wide x.address) (wide y.address) (x.length ∷ []) (y.length ∷ []) (length-wide x.address ix.address ∙ sym (length-wide y.address iy.address)) in
    ap (ordering_then (nat_cmp (family x.address) (family y.address))) (tail ∙ ap (ordering_then (slice_cmp nat_cmp (wide x.address) (wide y.address))) (then-equal (nat_cmp x.length y.length)))
    ∙ sym (then_assoc (nat_cmp (family x.address) (family y.address)) (slice_cmp nat_cmp (wide x.address) (wide y.address)) (nat_cmp x.length y.length))
    ∙ ap (λ (o : Ordering). ordering_then o (nat_cmp x.length y.length)) (wide_order x.address y.address ix.address iy.address)

pub keys_in_order : (p q : Peer) (x y : IpPrefix) → IsPeer p → IsPeer q → IsPrefix x → IsPrefix y → slice_cmp nat_cmp (prefix_key p x) (prefix_key q y) ≡ ordering_then (peer_order p q) (prefix_order x y)
keys_in_order p q x y ip iq ix iy =
    let whole_p : prefix_key p x ≡ peer_octets p ++ ending x = append_assoc (peer_octets p) (family x.address ∷ wide x.address) (x.length ∷ []) in
    let whole_q : prefix_key q y ≡ peer_octets q ++ ending y = append_assoc (peer_octets q) (family y.address ∷ wide y.address) (y.length ∷ []) in
    ap (λ (k : List ℕ). slice_cmp nat_cmp k (prefix_key q y)) whole_p
    ∙ ap (λ (k : List ℕ). slice_cmp nat_cmp (peer_octets p ++ ending x) k) whole_q
    ∙ cmp-append (peer_octets p) (peer_octets q) (ending x) (ending y) (length-peer p ip ∙ sym (length-peer q iq))
    ∙ ap (λ (o : Ordering). ordering_then o (slice_cmp nat_cmp (ending x) (ending y))) (peers_in_order p q ip iq)
    ∙ ap (ordering_then (peer_order p q)) (prefixes_in_order x y ix iy)

-- ---- numbers

AreOctets-append : (a b : List ℕ) → AreOctets a → AreOctets b → (i : ℕ) → get_or (a ++ b) i 0 < 256
AreOctets-append [] b all_a all_b i = all_b i
AreOctets-append (x ∷ a) b all_a all_b zero = all_a 0
AreOctets-append (x ∷ a) b all_a all_b (suc i) = AreOctets-append a b (λ j. all_a (suc j)) all_b i

AreOctets-cons : (x : ℕ) (a : List ℕ) → x < 256 → AreOctets a → (i : ℕ) → get_or (x ∷ a) i 0 < 256
AreOctets-cons x a lt all zero = lt
AreOctets-cons x a lt all (suc i) = all i

no_octets : AreOctets []
no_octets i = omega arith

AreOctets-zeros : (n i : ℕ) → get_or (replicate n 0) i 0 < 256
AreOctets-zeros zero i = omega arith
AreOctets-zeros (suc n) zero = omega arith
AreOctets-zeros (suc n) (suc i) = AreOctets-zeros n i

AreOctets-wide : (a : Address) → IsAddress a → AreOctets (wide a)
AreOctets-wide (V4 o) is = AreOctets-append o (replicate 12 0) is.1 (AreOctets-zeros 12)
AreOctets-wide (V6 o) is = is.1

AreOctets-number : (n : ℕ) → AreOctets (to_be_bytes w32 n)
AreOctets-number n =
    let low : n % 256 < 256 = omega arith in
    let second : n / 256 % 256 < 256 = omega arith in
    let third : n / 65536 % 256 < 256 = omega arith in
    let top : n / 16777216 % 256 < 256 = omega arith in
    AreOctets-cons (n / 16777216 % 256) (n / 65536 % 256 ∷ n / 256 % 256 ∷ n % 256 ∷ []) top (AreOctets-cons (n / 65536 % 256) (n / 256 % 256 ∷ n % 256 ∷ []) third (AreOctets-cons (n / 256 % 256) (n % 256 ∷ []) second (AreOctets-cons (n % 256) [] low no_octets)))

family_fits : (a : Address) → family a < 256
family_fits (V4 o) = omega arith
family_fits (V6 o) = omega arith

some_family : (a : Address) → nat_cmp 0 (family a) ≡ Less
some_family (V4 o) = refl
some_family (V6 o) = refl

AreOctets-peer : (p : Peer) → IsPeer p → AreOctets (peer_octets p)
AreOctets-peer p is = AreOctets-cons p.collector (family p.address ∷ wide p.address ++ to_be_bytes w32 p.as_number) is.collector (AreOctets-cons (family p.address) (wide p.address ++ to_be_bytes w32 p.as_number) (family_fits p.address) (AreOctets-append (wide p.address) (to_be_bytes w32 p.as_number) (AreOctets-wide p.address is.address) (AreOctets-number p.as_number)))

width_fits : (a : Address) (n : ℕ) → IsAddress a → n ≤ 8 * length (octets a) → n < 256
width_fits (V4 o) n is le = omega (arith, is.0)
width_fits (V6 o) n is le = omega (arith, is.0)

AreOctets-ending : (x : IpPrefix) → IsPrefix x → AreOctets (ending x)
AreOctets-ending x is = AreOctets-cons (family x.address) (wide x.address ++ x.length ∷ []) (family_fits x.address) (AreOctets-append (wide x.address) (x.length ∷ []) (AreOctets-wide x.address is.address) (AreOctets-cons x.length [] (width_fits x.address x.length is.address is.length) no_octets))

-- a peer's octets with eighteen more
pub record IsTail (o : List ℕ) : Type 0 where
  pub size : length o ≡ 18
  pub octets : AreOctets o

pub zeros_tail : IsTail (replicate 18 0)
zeros_tail = record { size = refl; octets = AreOctets-zeros 18 }

pub ending_tail : (x : IpPrefix) → IsPrefix x → IsTail (ending x)
ending_tail x is = record { size = omega (arith, length-wide x.address is.address, length-append (wide x.address) (x.length ∷ [])); octets = AreOctets-ending x is }

pub prefix_key-parts : (p : Peer) (x : IpPrefix) → prefix_key p x ≡ peer_octets p ++ ending x
prefix_key-parts p x = append_assoc (peer_octets p) (family x.address ∷ wide x.address) (x.length ∷ [])

pub key_size : (p : Peer) (o : List ℕ) → IsPeer p → IsTail o → length (peer_octets p ++ o) ≡ 40
key_size p o is tail = omega (arith, length-append (peer_octets p) o, length-peer p is, tail.size)

pub key_octets_fit : (p : Peer) (o : List ℕ) → IsPeer p → IsTail o → AreOctets (peer_octets p ++ o)
key_octets_fit p o is tail = AreOctets-append (peer_octets p) o (AreOctets-peer p is) tail.octets

-- two keys by their peers and their tails
keys_cmp : (p q : Peer) (a b : List ℕ) → IsPeer p → IsPeer q → IsTail a → IsTail b → nat_cmp (number_of (peer_octets p ++ a)) (number_of (peer_octets q ++ b)) ≡ ordering_then (peer_order p q) (slice_cmp nat_cmp a b)
keys_cmp p q a b ip iq ta tb =
    number_cmp (peer_octets p ++ a) (peer_octets q ++ b) (key_size p a ip ta ∙ sym (key_size q b iq tb)) (key_octets_fit p a ip ta) (key_octets_fit q b iq tb)
    ∙ cmp-append (peer_octets p) (peer_octets q) a b (length-peer p ip ∙ sym (length-peer q iq))
    ∙ ap (λ (o : Ordering). ordering_then o (slice_cmp nat_cmp a b)) (peers_in_order p q ip iq)

pub prefixes_cmp : (p q : Peer) (x y : IpPrefix) → IsPeer p → IsPeer q → IsPrefix x → IsPrefix y → nat_cmp (key_number p x) (key_number q y) ≡ ordering_then (peer_order p q) (prefix_order x y)
prefixes_cmp p q x y ip iq ix iy =
    ap (λ (k : List ℕ). nat_cmp (number_of k) (key_number q y)) (prefix_key-parts p x)
    ∙ ap (λ (k : List ℕ). nat_cmp (number_of (peer_octets p ++ ending x)) (number_of k)) (prefix_key-parts q y)
    ∙ keys_cmp p q (ending x) (ending y) ip iq (ending_tail x ix) (ending_tail y iy)
    ∙ ap (ordering_then (peer_order p q)) (prefixes_in_order x y ix iy)

cmp_same : (o : List ℕ) → slice_cmp nat_cmp o o ≡ Equal
cmp_same [] = refl
cmp_same (x ∷ o) = rw (nat_cmp_self x) (cmp_same o)

pub sessions_cmp : (p q : Peer) → IsPeer p → IsPeer q → nat_cmp (session_number p) (session_number q) ≡ peer_order p q
sessions_cmp p q ip iq =
    keys_cmp p q (replicate 18 0) (replicate 18 0) ip iq zeros_tail zeros_tail
    ∙ ap (ordering_then (peer_order p q)) (cmp_same (replicate 18 0)) ∙ then-equal (peer_order p q)

peer_order-self : (p : Peer) → IsPeer p → peer_order p p ≡ Equal
peer_order-self p is = sym (peers_in_order p p is is) ∙ cmp_same (peer_octets p)

zeros_below : (x : IpPrefix) → slice_cmp nat_cmp (replicate 18 0) (ending x) ≡ Less
zeros_below x = ap (λ (o : Ordering). ordering_then o (slice_cmp nat_cmp (replicate 17 0) (wide x.address ++ x.length ∷ []))) (some_family x.address)

pub session_below : (p : Peer) (x : IpPrefix) → IsPeer p → IsPrefix x → session_number p < key_number p x
session_below p x ip ix =
    cmp_less_is (session_number p) (key_number p x) (
    ap (λ (k : List ℕ). nat_cmp (session_number p) (number_of k)) (prefix_key-parts p x)
    ∙ keys_cmp p p (replicate 18 0) (ending x) ip ip zeros_tail (ending_tail x ix)
    ∙ ap (λ (o : Ordering). ordering_then o (slice_cmp nat_cmp (replicate 18 0) (ending x))) (peer_order-self p ip)
    ∙ zeros_below x)

pub session_above : (p q : Peer) (x : IpPrefix) → IsPeer p → IsPeer q → IsPrefix x → peer_order p q ≡ Less → key_number p x < session_number q
session_above p q x ip iq ix less =
    cmp_less_is (key_number p x) (session_number q) (
    ap (λ (k : List ℕ). nat_cmp (number_of k) (session_number q)) (prefix_key-parts p x)
    ∙ keys_cmp p q (ending x) (replicate 18 0) ip iq (ending_tail x ix) zeros_tail
    ∙ ap (λ (o : Ordering). ordering_then o (slice_cmp nat_cmp (ending x) (replicate 18 0))) less)

-- ---- taken apart

abbrev tail_of : KeyParts → List ℕ
tail_of (Session p) = replicate 18 0
tail_of (OfPrefix p x) = ending x

abbrev peer_in : KeyParts → Peer
peer_in (Session p) = p
peer_in (OfPrefix p x) = p

pub record IsKeyList (parts : KeyParts) : Type 0 where
  pub size : length (key_octets parts) ≡ 40
  pub octets : AreOctets (key_octets parts)

pub key_list : (parts : KeyParts) → IsKeyParts parts → IsKeyList parts
key_list (Session p) is = record { size = key_size p (replicate 18 0) is zeros_tail; octets = key_octets_fit p (replicate 18 0) is zeros_tail }
key_list (OfPrefix p x) is =
    let e = sym (prefix_key-parts p x) in
    let tail = ending_tail x is.1 in
    record {
      size = subst (λ (k : List ℕ). length k ≡ 40) e (key_size p (ending x) is.0 tail);
      octets = subst (λ (k : List ℕ). AreOctets k) e (key_octets_fit p (ending x) is.0 tail);
    }

-- the octets whose number is that of the key are the key's
pub key_octets_are : (o : List ℕ) (parts : KeyParts) → length o ≡ 40 → AreOctets o → IsKeyParts parts → number_of o ≡ key_of parts → o ≡ key_octets parts
key_octets_are o parts len all is e =
    let l = key_list parts is in
    number_one o (key_octets parts) (len ∙ sym l.size) all l.octets e

ending_again : (p : Peer) (x : IpPrefix) (rest : List ℕ) → IsPeer p → IsPrefix x → parts_at (peer_octets p ++ ending x) ≡ Some (OfPrefix p x)
unfolding parts_at
ending_again p x rest ip ix =
    let narrow : ltb (8 * length (octets x.address)) x.length ≡ false = le-ltb _ _ ix.length in
    let known : eqb (family x.address) 0 ≡ false = family_some x.address in
    rw (peer_again p (ending x) ip, known, octets_again (wide x.address) (x.length ∷ []) 16 (length-wide x.address ix.address), wide_again x.address ix.address, narrow, ix.cleared) refl
  where
    family_some : (a : Address) → eqb (family a) 0 ≡ false
    family_some (V4 o) = refl
    family_some (V6 o) = refl

pub parts_again : (parts : KeyParts) → IsKeyParts parts → parts_at (key_octets parts) ≡ Some parts
unfolding parts_at
parts_again (Session p) is = rw (peer_again p (replicate 18 0) is) refl
parts_again (OfPrefix p x) is = ap parts_at (prefix_key-parts p x) ∙ ending_again p x [] is.0 is.1
