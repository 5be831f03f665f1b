-- The entries of a ring, one after another.
use Rattle.std.proofs.Common.{◌≡◌, ◌<◌, ◌≤◌, ℕ, ◌+◌, ◌-◌, List, [], ◌∷◌, ◌++◌, length, take, drop, get_or, suc, subst, refl, sym, ◌∙◌, ap, arith, append_assoc, length-append, None}
use Rattle.std.proofs.Math.Seq.{take-append_seam, drop-append_seam, take-suc}
use Rattle.std.proofs.lemmas.Grind.{flat_map-append}
use Rattle.std.proofs.lemmas.List.{append-nil, take-append-drop}
use Rattle.std.proofs.lemmas.Nat.{from_be_bytes-to_be_bytes_4}
use Rattle.std.specs.List.{flat_map, AllByRecursion, slice_get}
use Rattle.std.specs.Int.{w32, to_be_bytes, from_be_bytes}
use Rattle.route_model.specs.Admission.{Admitted, IsAdmission, EncodesAdmission, admission_octets}
use Rattle.intake.specs.declared.ring.Ring.{Ring}
use Rattle.intake.specs.Ring.{sized, entry, octets_for, wrapped, size_of, ring_octet, RingRepresents}
use Rattle.intake.proofs.Wrapping.{reads_later}

pub length-sized : (octets : List ℕ) → length (sized octets) ≡ 4 + length octets
unfolding sized
length-sized octets = length-append (to_be_bytes w32 (length octets)) octets

-- ---- the first entry

pub take_front : (n : ℕ) (xs ys : List ℕ) → length xs ≡ n → take n (xs ++ ys) ≡ xs
take_front n xs ys e = ap (λ k. take k (xs ++ ys)) (sym e) ∙ take-append_seam xs ys

pub drop_front : (n : ℕ) (xs ys : List ℕ) → length xs ≡ n → drop n (xs ++ ys) ≡ ys
drop_front n xs ys e = ap (λ k. drop k (xs ++ ys)) (sym e) ∙ drop-append_seam xs ys

pub entries_first : (a : Admitted) (rest : List Admitted) → flat_map entry (a ∷ rest) ≡ to_be_bytes w32 (length (admission_octets a)) ++ (admission_octets a ++ flat_map entry rest)
unfolding sized
entries_first a rest = append_assoc (to_be_bytes w32 (length (admission_octets a))) (admission_octets a) (flat_map entry rest)

pub front_used : (a : Admitted) (rest : List Admitted) (used : ℕ) → length (flat_map entry (a ∷ rest)) ≡ used → 4 + length (admission_octets a) ≤ used
front_used a rest used e = omega (arith, length-append (entry a) (flat_map entry rest), length-sized (admission_octets a))

pub front_len : (a : Admitted) (rest : List Admitted) (octets : List ℕ) → length (admission_octets a) ≤ 131072 → octets ≡ take 4 (drop 0 (flat_map entry (a ∷ rest))) → from_be_bytes w32 octets ≡ length (admission_octets a)
front_len a rest octets small e =
    ap (from_be_bytes w32) (e ∙ (ap (take 4) (entries_first a rest) ∙ take_front 4 (to_be_bytes w32 (length (admission_octets a))) (admission_octets a ++ flat_map entry rest) refl))
    ∙ from_be_bytes-to_be_bytes_4 (length (admission_octets a)) (omega (arith, small))

pub front_octets : (a : Admitted) (rest : List Admitted) (n : ℕ) (octets : List ℕ) → n ≡ length (admission_octets a) → octets ≡ take n (drop 4 (flat_map entry (a ∷ rest))) → octets ≡ admission_octets a
front_octets a rest n octets is e =
    e ∙ (ap (λ l. take n (drop 4 l)) (entries_first a rest) ∙ (ap (take n) (drop_front 4 (to_be_bytes w32 (length (admission_octets a))) (admission_octets a ++ flat_map entry rest) refl) ∙ take_front n (admission_octets a) (flat_map entry rest) (sym is)))

-- ---- a batch, one admission after another

more : (xs : List Admitted) (i : ℕ) (x : Admitted) → i < length xs → x ≡ get_or xs i x → take (i + 1) xs ≡ take i xs ++ x ∷ []
more xs i x lt e = ap (λ n. take n xs) (let n : i + 1 ≡ suc i = omega arith in n) ∙ (take-suc xs i x lt ∙ ap (λ (y : Admitted). take i xs ++ y ∷ []) (sym e))

pub entries_more : (xs : List Admitted) (i : ℕ) (x : Admitted) → i < length xs → x ≡ get_or xs i x → flat_map entry (take (i + 1) xs) ≡ flat_map entry (take i xs) ++ entry x
entries_more xs i x lt e = ap (flat_map entry) (more xs i x lt e) ∙ (flat_map-append entry (take i xs) (x ∷ []) ∙ ap (λ l. flat_map entry (take i xs) ++ l) (append-nil (entry x)))

pub octets_more : (xs : List Admitted) (i : ℕ) (x : Admitted) → i < length xs → x ≡ get_or xs i x → octets_for (take (i + 1) xs) ≡ octets_for (take i xs) + (4 + length (admission_octets x))
octets_more xs i x lt e = let l = ap length (entries_more xs i x lt e) in let a = length-append (flat_map entry (take i xs)) (entry x) in let s = length-sized (admission_octets x) in omega arith

pub octets_part : (i : ℕ) (xs : List Admitted) → octets_for (take i xs) ≤ octets_for xs
octets_part i xs =
    let all = ap length (ap (flat_map entry) (sym (take-append-drop i xs)) ∙ flat_map-append entry (take i xs) (drop i xs)) in
    let a = length-append (flat_map entry (take i xs)) (flat_map entry (drop i xs)) in
    omega arith

pub valid_both : (xs ys : List Admitted) → AllByRecursion IsAdmission xs → AllByRecursion IsAdmission ys → AllByRecursion IsAdmission (xs ++ ys)
valid_both [] ys a b = b
valid_both (x ∷ xs) ys a b = (a.0, valid_both xs ys a.1 b)

pub valid_more : (xs : List Admitted) (i : ℕ) (x : Admitted) → i < length xs → x ≡ get_or xs i x → IsAdmission x → AllByRecursion IsAdmission (take i xs) → AllByRecursion IsAdmission (take (i + 1) xs)
valid_more xs i x lt e valid all = subst (AllByRecursion IsAdmission) (sym (more xs i x lt e)) (valid_both (take i xs) (x ∷ []) all (valid, tt))

-- ---- the first entry is passed

pub holds_later : (pages : List (List ℕ)) (ring : Ring) (a : Admitted) (rest : List Admitted) → ring.first < size_of ring → ring.used ≤ size_of ring → RingRepresents pages ring (a ∷ rest)
    → RingRepresents pages (record ring { first = wrapped (size_of ring) (ring.first + length (entry a)); used = ring.used - length (entry a) }) rest
holds_later pages ring a rest start few h =
    let size = h.size in
    let both = length-append (entry a) (flat_map entry rest) in
    record {
      valid = h.valid.1;
      size = omega arith;
      octets = reads_later (ring_octet pages ring.low) (size_of ring) ring.first (entry a) (flat_map entry rest) start (omega arith) h.octets;
    }

pub entry_is : (a : Admitted) → entry a ≡ to_be_bytes w32 (length (admission_octets a)) ++ admission_octets a
unfolding sized
entry_is a = refl

-- what a ring that holds something has first
pub record First (ring : Ring) (waits : List Admitted) : Type 0 where
  pub a : Admitted
  pub rest : List Admitted
  pub is : waits ≡ a ∷ rest
  pub fits : 4 + length (admission_octets a) ≤ ring.used
  pub valid : IsAdmission a

pub first_there : (pages : List (List ℕ)) (ring : Ring) (waits : List Admitted) → 0 < ring.used → RingRepresents pages ring waits → First ring waits
first_there pages ring [] some h = let s = h.size in absurd (omega arith)
first_there pages ring (a ∷ rest) some h = record { a = a; rest = rest; is = refl; fits = front_used a rest ring.used h.size; valid = h.valid.0 }

pub none_there : (pages : List (List ℕ)) (ring : Ring) (waits : List Admitted) → ring.used ≡ 0 → RingRepresents pages ring waits → None ≡ slice_get waits 0
none_there pages ring [] none h = refl
none_there pages ring (a ∷ rest) none h = let u = front_used a rest ring.used h.size in absurd (omega arith)

pub first_len : (ring : Ring) (waits : List Admitted) (octets : List ℕ) → (f : First ring waits) → octets ≡ take 4 (drop 0 (flat_map entry waits)) → from_be_bytes w32 octets ≡ length (admission_octets f.a)
first_len ring waits octets f e = front_len f.a f.rest octets f.valid.small (e ∙ ap (λ l. take 4 (drop 0 (flat_map entry l))) f.is)

pub first_encoded : (ring : Ring) (waits : List Admitted) (n : ℕ) (octets : List ℕ) → (f : First ring waits) → n ≡ length (admission_octets f.a) → octets ≡ take n (drop 4 (flat_map entry waits)) → EncodesAdmission f.a octets
first_encoded ring waits n octets f is e = record { valid = f.valid; encoded = front_octets f.a f.rest n octets is (e ∙ ap (λ l. take n (drop 4 (flat_map entry l))) f.is) }
