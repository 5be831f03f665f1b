-- The used octets of a ring, and what they begin with.
use Rattle.std.proofs.Common.{◌≡◌, ◌<◌, ◌≤◌, ℕ, zero, suc, ◌+◌, List, [], ◌∷◌, ◌++◌, length, take, drop, get_or, refl, sym, ◌∙◌, ap, subst, arith, append_assoc}
use Rattle.std.proofs.Math.Seq.{take-add}
use Rattle.std.proofs.lemmas.List.{get_or-take, length-take, take-append-drop, ext_get_or}
use Rattle.std.proofs.lemmas.Nat.{from_be_bytes-to_be_bytes_4}
use Rattle.std.specs.Int.{w32, to_be_bytes, from_be_bytes}
use Rattle.route_model.specs.Admission.{Admitted, EncodesAdmission, admission_octets}
use Rattle.intake.specs.declared.ring.Ring.{Ring}
use Rattle.intake.specs.Ring.{entry, size_of, wrapped, ring_octet, HasOctets}
use Rattle.intake.specs.Outlines.{IsFirst}
use Rattle.intake.proofs.Entries.{entry_is, length-sized, take_front, drop_front}

-- the first n values of a function, from that at 0 on
abbrev values : (ℕ → ℕ) → ℕ → List ℕ
values f zero = []
values f (suc n) = f zero ∷ values (λ k. f (suc k)) n

length_values : (f : ℕ → ℕ) (n : ℕ) → length (values f n) ≡ n
length_values f zero = refl
length_values f (suc n) = ap suc (length_values (λ k. f (suc k)) n)

value_at : (f : ℕ → ℕ) (n k : ℕ) → k < n → f k ≡ get_or (values f n) k 0
value_at f zero k lt = absurd (omega arith)
value_at f (suc n) zero lt = refl
value_at f (suc n) (suc k) lt = value_at (λ m. f (suc m)) n k (omega arith)

-- the used octets
abbrev pub used_octets : List (List ℕ) → Ring → List ℕ
used_octets pages ring = values (λ k. ring_octet pages ring.low (wrapped (size_of ring) (ring.first + k))) ring.used

pub used_length : (pages : List (List ℕ)) (ring : Ring) → length (used_octets pages ring) ≡ ring.used
used_length pages ring = length_values (λ k. ring_octet pages ring.low (wrapped (size_of ring) (ring.first + k))) ring.used

pub used_stand : (pages : List (List ℕ)) (ring : Ring) → HasOctets pages ring (used_octets pages ring)
used_stand pages ring k lt = let l = used_length pages ring in value_at (λ k. ring_octet pages ring.low (wrapped (size_of ring) (ring.first + k))) ring.used k (omega arith)

-- ---- octets that stand

pub stands_front : (pages : List (List ℕ)) (ring : Ring) (stood : List ℕ) (n : ℕ) → HasOctets pages ring stood → HasOctets pages ring (take n stood)
stands_front pages ring stood n stand k lt =
    let l = length-take n stood in
    stand k (omega arith) ∙ sym (get_or-take n stood k 0 (omega arith))

pub front_stood : (pages : List (List ℕ)) (ring : Ring) (octets stood : List ℕ) → length octets ≤ length stood → HasOctets pages ring octets → HasOctets pages ring stood → take (length octets) stood ≡ octets
front_stood pages ring octets stood few one all =
    let l = length-take (length octets) stood in
    ext_get_or 0 (take (length octets) stood) octets (omega arith) (λ k lt. get_or-take (length octets) stood k 0 (omega arith) ∙ (sym (all k (omega arith)) ∙ one k (omega arith)))

-- ---- the first admission

pub first_stands : (pages : List (List ℕ)) (ring : Ring) (a : Admitted) (len : ℕ) (size octets stood : List ℕ) → HasOctets pages ring stood
    → size ≡ take 4 (drop 0 stood) → octets ≡ take len (drop 4 stood) → size ≡ to_be_bytes w32 len → length octets ≡ len → 4 + len ≤ ring.used → EncodesAdmission a octets → IsFirst pages ring a
first_stands pages ring a len size octets stood stand size_is octets_are number long fits encoded =
    let same : len ≡ length (admission_octets a) = sym long ∙ ap length encoded.encoded in
    let front : take (4 + len) stood ≡ entry a =
    take-add 4 len stood
    ∙ (ap (λ l. l ++ take len (drop 4 stood)) (sym size_is ∙ (number ∙ ap (to_be_bytes w32) same))
    ∙ (ap (λ l. to_be_bytes w32 (length (admission_octets a)) ++ l) (sym octets_are ∙ encoded.encoded) ∙ sym (entry_is a))) in
    record {
      valid = encoded.valid;
      fits = (let l = length-sized (admission_octets a) in omega arith);
      octets = subst (HasOctets pages ring) front (stands_front pages ring stood (4 + len) stand);
    }

-- what a ring's octets begin with where an admission stands first
pub record Begins (ring : Ring) (a : Admitted) (stood : List ℕ) : Type 0 where
  pub fits : 4 + length (admission_octets a) ≤ ring.used
  pub size : take 4 (drop 0 stood) ≡ to_be_bytes w32 (length (admission_octets a))
  pub octets : take (length (admission_octets a)) (drop 4 stood) ≡ admission_octets a

pub begins : (pages : List (List ℕ)) (ring : Ring) (a : Admitted) (stood : List ℕ) → length stood ≡ ring.used → HasOctets pages ring stood → IsFirst pages ring a → Begins ring a stood
begins pages ring a stood used stand f =
    let size = to_be_bytes w32 (length (admission_octets a)) in
    let rest = drop (length (entry a)) stood in
    let fits = f.fits in
    let l = length-sized (admission_octets a) in
    let all : stood ≡ size ++ (admission_octets a ++ rest) =
    sym (take-append-drop (length (entry a)) stood)
    ∙ (ap (λ x. x ++ rest) (front_stood pages ring (entry a) stood (omega arith) f.octets stand ∙ entry_is a) ∙ append_assoc size (admission_octets a) rest) in
    record {
      fits = omega arith;
      size = ap (take 4) all ∙ take_front 4 size (admission_octets a ++ rest) refl;
      octets = ap (λ x. take (length (admission_octets a)) (drop 4 x)) all
          ∙ (ap (take (length (admission_octets a))) (drop_front 4 size (admission_octets a ++ rest) refl) ∙ take_front (length (admission_octets a)) (admission_octets a) rest refl);
    }

pub length_reported : (a : Admitted) (len : ℕ) (stood size : List ℕ) → length (admission_octets a) ≤ 131072 → take 4 (drop 0 stood) ≡ to_be_bytes w32 (length (admission_octets a)) → size ≡ take 4 (drop 0 stood) → len ≡ from_be_bytes w32 size → len ≡ length (admission_octets a)
length_reported a len stood size small is read reported = reported ∙ (ap (from_be_bytes w32) (read ∙ is) ∙ from_be_bytes-to_be_bytes_4 (length (admission_octets a)) (omega arith))
