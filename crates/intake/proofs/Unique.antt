-- A ring holds one list at most.
use Rattle.std.proofs.Common.{◌≡◌, ℕ, List, [], ◌∷◌, length, take, drop, sym, ◌∙◌, ap, arith, refl, length-append}
use Rattle.std.proofs.Math.Seq.{drop-append_seam}
use Rattle.std.proofs.lemmas.Grind.{same_number_lists}
use Rattle.std.proofs.lemmas.List.Sums.{sum_by-cons}
use Rattle.std.specs.List.{flat_map, sum_by, AllByRecursion}
use Rattle.route_model.specs.Admission.{Admitted, IsAdmission, EncodesAdmission, admission_octets}
use Rattle.intake.specs.declared.ring.Ring.{Ring}
use Rattle.intake.specs.Ring.{entry, entry_octets, octets_for, RingRepresents}
use Rattle.intake.proofs.Entries.{front_len, front_octets, length-sized}

-- equal encodings are of one admission
abbrev pub OneEncoded : Type 0
OneEncoded = (a b : Admitted) (octets : List ℕ) → EncodesAdmission a octets → EncodesAdmission b octets → a ≡ b

entries_one : OneEncoded → (xs ys : List Admitted) → AllByRecursion IsAdmission xs → AllByRecursion IsAdmission ys → flat_map entry xs ≡ flat_map entry ys → xs ≡ ys
entries_one one [] [] v w e = refl
entries_one one [] (y ∷ ys) v w e = let l = ap length e in let a = length-append (entry y) (flat_map entry ys) in let s = length-sized (admission_octets y) in absurd (omega arith)
entries_one one (x ∷ xs) [] v w e = let l = ap length e in let a = length-append (entry x) (flat_map entry xs) in let s = length-sized (admission_octets x) in absurd (omega arith)
entries_one one (x ∷ xs) (y ∷ ys) v w e =
    let all = flat_map entry (x ∷ xs) in
    let size = take 4 (drop 0 all) in
    let n = length (admission_octets x) in
    let octets = take n (drop 4 all) in
    let len : n ≡ length (admission_octets y) = sym (front_len x xs size v.0.small refl) ∙ front_len y ys size w.0.small (ap (λ (l : List ℕ). take 4 (drop 0 l)) e) in
    let this : octets ≡ admission_octets x = front_octets x xs n octets refl refl in
    let that : octets ≡ admission_octets y = front_octets y ys n octets len (ap (λ (l : List ℕ). take n (drop 4 l)) e) in
    let same : x ≡ y = one x y octets (record { valid = v.0; encoded = this }) (record { valid = w.0; encoded = that }) in
    let rest : flat_map entry xs ≡ flat_map entry ys =
    sym (drop-append_seam (entry x) (flat_map entry xs))
    ∙ (ap (drop (length (entry x))) e ∙ (ap (λ (a : Admitted). drop (length (entry a)) (flat_map entry (y ∷ ys))) same ∙ drop-append_seam (entry y) (flat_map entry ys))) in
    ap (λ (a : Admitted). a ∷ xs) same ∙ ap (λ (l : List Admitted). y ∷ l) (entries_one one xs ys v.1 w.1 rest)

pub holds_one : OneEncoded → (ring : Ring) (pages : List (List ℕ)) (xs ys : List Admitted) → RingRepresents pages ring xs → RingRepresents pages ring ys → xs ≡ ys
holds_one one ring pages xs ys h k =
    let len : length (flat_map entry xs) ≡ length (flat_map entry ys) = h.size ∙ sym k.size in
    entries_one one xs ys h.valid k.valid (same_number_lists (flat_map entry xs) (flat_map entry ys) len (λ i lt. sym (h.octets i lt) ∙ k.octets i (omega (arith, lt, len))))

pub octets_sum : (batch : List Admitted) → octets_for batch ≡ sum_by entry_octets batch
octets_sum [] = refl
octets_sum (a ∷ rest) = let l = length-append (entry a) (flat_map entry rest) in let s = length-sized (admission_octets a) in let c = sum_by-cons entry_octets a rest in let ih = octets_sum rest in omega arith
