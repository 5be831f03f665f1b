-- Prefixes: the octets of an encoding, filled with zeros and cleared, are the prefix's own.
use Rattle.std.proofs.Common.{◌≡◌, ℕ, zero, suc, ◌+◌, ◌-◌, ◌*◌, ◌/◌, ◌%◌, ◌<◌, ◌≤◌, ◌^◌, ltb, false, List, [], ◌∷◌, ◌++◌, length, take, replicate, Some, refl, sym, ap, ◌∙◌, arith}
use Rattle.std.proofs.lemmas.Bool.{le-ltb}
use Rattle.std.proofs.lemmas.List.{length-take, append-nil}
use Rattle.std.proofs.lemmas.Nat.{pow_pos, div-add-mod'}
use native.Mathlib.Nat.{mul-mod_left}
use Rattle.route_model.specs.declared.address.Address.{Address}
use Rattle.route_model.specs.declared.address.Address.TheVariants.{V4, V6}
use Rattle.route_model.specs.Octets.{AreOctets}
use Rattle.route_model.specs.Address.{octets}
use Rattle.route_model.specs.Prefix.{IpPrefix, cleared, IsPrefix, prefix_octets, EncodesPrefix}
use Rattle.route_model.specs.inner.Codec.Admissions.{prefix_at}
use Rattle.route_model.proofs.Fields.{octets_again}

-- bits that are zero stay so
pub cleared-zeros : (n k : ℕ) → cleared n (replicate k 0) ≡ replicate k 0
cleared-zeros n zero = refl
cleared-zeros n (suc k) =
    let e : 0 - 0 % 2 ^ (8 - n) ≡ 0 = omega arith in
    rw (e, cleared-zeros (n - 8) k) refl

same_bits : (n x : ℕ) → (x - x % 2 ^ (8 - n)) % 2 ^ (8 - n) ≡ 0
same_bits n x =
    let m : ℕ = 2 ^ (8 - n) in
    let pos : 0 < m = pow_pos (8 - n) in
    let split = div-add-mod' x m in
    let e : x - x % m ≡ x / m * m = omega arith in
    rw e (mul-mod_left (x / m) m)

pub cleared-cleared : (n : ℕ) (o : List ℕ) → cleared n (cleared n o) ≡ cleared n o
cleared-cleared n [] = refl
cleared-cleared n (x ∷ o) =
    let e : (x - x % 2 ^ (8 - n)) - (x - x % 2 ^ (8 - n)) % 2 ^ (8 - n) ≡ x - x % 2 ^ (8 - n) = omega (arith, same_bits n x) in
    rw (e, cleared-cleared (n - 8) o) refl

cleared-none : (o : List ℕ) → AreOctets o → cleared 0 o ≡ replicate (length o) 0
cleared-none [] all = refl
cleared-none (x ∷ o) all =
    let e : x - x % 256 ≡ 0 = omega (arith, all 0) in
    rw (e, cleared-none o (λ i. all (suc i))) refl

-- zeros in the place of octets past the length are cleared to the same
pub cleared-filled : (n k : ℕ) (o : List ℕ) → AreOctets o → k ≡ (n + 7) / 8 → cleared n (take k o ++ replicate (length o - k) 0) ≡ cleared n o
cleared-filled n zero o all e =
    let none : n ≡ 0 = omega arith in
    let e : length o - 0 ≡ length o = omega arith in
    rw (none, e) (cleared-zeros 0 (length o) ∙ sym (cleared-none o all))
cleared-filled n (suc k) [] all e =
    let none : 0 - suc k ≡ 0 = omega arith in
    rw none refl
cleared-filled n (suc k) (x ∷ o) all e =
    let less : k ≡ ((n - 8) + 7) / 8 = omega arith in
    let shorter : suc (length o) - suc k ≡ length o - k = omega arith in
    rw shorter (ap (λ (t : List ℕ). (x - x % 2 ^ (8 - n)) ∷ t) (cleared-filled (n - 8) k o (λ i. all (suc i)) less))

prefix_4 : (o : List ℕ) (n : ℕ) (rest : List ℕ) → length o ≡ 4 → n ≤ 8 * length o → cleared n o ≡ o → AreOctets o → prefix_at (4 ∷ n ∷ (take ((n + 7) / 8) o ++ rest)) ≡ Some (record { address = V4 o; length = n }, rest)
unfolding prefix_at
prefix_4 o n rest len le clear all =
    let k : ℕ = (n + 7) / 8 in
    let front : length (take k o) ≡ k = omega (arith, length-take k o) in
    let wide : ltb 32 n ≡ false = le-ltb _ _ (omega arith) in
    let same : cleared n (take k o ++ replicate (4 - length (take k o)) 0) ≡ o = rw (front, ← len) (cleared-filled n k o all refl ∙ clear) in
    rw (wide, octets_again (take k o) rest k front, same) refl

prefix_6 : (o : List ℕ) (n : ℕ) (rest : List ℕ) → length o ≡ 16 → n ≤ 8 * length o → cleared n o ≡ o → AreOctets o → prefix_at (6 ∷ n ∷ (take ((n + 7) / 8) o ++ rest)) ≡ Some (record { address = V6 o; length = n }, rest)
unfolding prefix_at
prefix_6 o n rest len le clear all =
    let k : ℕ = (n + 7) / 8 in
    let front : length (take k o) ≡ k = omega (arith, length-take k o) in
    let wide : ltb 128 n ≡ false = le-ltb _ _ (omega arith) in
    let same : cleared n (take k o ++ replicate (16 - length (take k o)) 0) ≡ o = rw (front, ← len) (cleared-filled n k o all refl ∙ clear) in
    rw (wide, octets_again (take k o) rest k front, same) refl

of_address : (a : Address) (n : ℕ) (rest : List ℕ) → IsPrefix (record { address = a; length = n }) → prefix_at (prefix_octets (record { address = a; length = n }) ++ rest) ≡ Some (record { address = a; length = n }, rest)
of_address (V4 o) n rest is = prefix_4 o n rest is.address.0 is.length (ap octets is.cleared) is.address.1
of_address (V6 o) n rest is = prefix_6 o n rest is.address.0 is.length (ap octets is.cleared) is.address.1

pub prefix_again : (p : IpPrefix) (rest : List ℕ) → IsPrefix p → prefix_at (prefix_octets p ++ rest) ≡ Some (p, rest)
prefix_again p rest is = of_address p.address p.length rest is

pub prefix_encoded : (p : IpPrefix) (bytes : List ℕ) → EncodesPrefix p bytes → prefix_at bytes ≡ Some (p, [])
prefix_encoded p bytes is = ap prefix_at (is.encoded ∙ sym (append-nil (prefix_octets p))) ∙ prefix_again p [] is.valid

cleared-octets : (n : ℕ) (o : List ℕ) → AreOctets o → AreOctets (cleared n o)
cleared-octets n [] all i = omega (arith, all i)
cleared-octets n (x ∷ o) all zero = omega (arith, all 0)
cleared-octets n (x ∷ o) all (suc i) = cleared-octets (n - 8) o (λ j. all (suc j)) i

length-cleared : (n : ℕ) (o : List ℕ) → length (cleared n o) ≡ length o
length-cleared n [] = refl
length-cleared n (x ∷ o) = ap suc (length-cleared (n - 8) o)

pub contained_4 : (n : ℕ) (a : Address) (o r : List ℕ) → a ≡ V4 o → n ≤ 8 * length (octets a) → r ≡ cleared n o → length r ≡ 4 → AreOctets r → IsPrefix (record { address = V4 r; length = n })
contained_4 n a o r a-is le r-is len all =
    let same : cleared n r ≡ r = rw r-is (cleared-cleared n o) in
    let within : n ≤ 8 * length o = rw a-is at le in
    record { address = (len, all); length = omega (arith, ap length r-is, length-cleared n o); cleared = ap (λ (t : List ℕ). V4 t) same }

pub contained_6 : (n : ℕ) (a : Address) (o r : List ℕ) → a ≡ V6 o → n ≤ 8 * length (octets a) → r ≡ cleared n o → length r ≡ 16 → AreOctets r → IsPrefix (record { address = V6 r; length = n })
contained_6 n a o r a-is le r-is len all =
    let same : cleared n r ≡ r = rw r-is (cleared-cleared n o) in
    let within : n ≤ 8 * length o = rw a-is at le in
    record { address = (len, all); length = omega (arith, ap length r-is, length-cleared n o); cleared = ap (λ (t : List ℕ). V6 t) same }
