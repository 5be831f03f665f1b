-- Which change is next.
use Rattle.std.proofs.Common.{◌≡◌, ◌<◌, ◌≤◌, ℕ, zero, suc, List, [], ◌∷◌, length, take, drop, map, refl, ap, arith}
use Rattle.route_model.specs.declared.change.Change.{Change}
use Rattle.route_model.specs.Admission.{Admitted}
use Rattle.route_meaning.specs.Merged.{Placed}
use Rattle.route_meaning.specs.Holds.{time_of}
use Rattle.route_history.specs.Kept.{at_time}
use Rattle.archive_pages.specs.Represented.{last_time}
use Rattle.archive_pages.specs.Changes.{next_change}

one_mapped : (d time : ℕ) (n : ℕ) (xs : List Change) → n < length xs → (length (map (at_time time) (take 1 (drop n xs))) ≡ 1) × (last_time d (map (at_time time) (take 1 (drop n xs))) ≡ time)
one_mapped d time n [] lt = absurd (omega arith)
one_mapped d time zero (x ∷ xs) lt = (refl, refl)
one_mapped d time (suc n) (x ∷ xs) lt = one_mapped d time n xs (omega arith)

none_left : (n : ℕ) (xs : List Change) → length xs ≤ n → take 1 (drop n xs) ≡ []
none_left zero [] le = refl
none_left zero (x ∷ xs) le = absurd (omega arith)
none_left (suc n) [] le = refl
none_left (suc n) (x ∷ xs) le = none_left n xs (omega arith)

-- where the admission has one more change, that one
pub next_is_one : (d n : ℕ) (p : Placed Admitted) → n < length p.item.changes → (length (next_change n p) ≡ 1) × (last_time d (next_change n p) ≡ time_of p)
next_is_one d n p lt = one_mapped d (time_of p) n p.item.changes lt

-- and none elsewhere
pub next_is_none : (n : ℕ) (p : Placed Admitted) → length p.item.changes ≤ n → next_change n p ≡ []
next_is_none n p le = ap (map (at_time (time_of p))) (none_left n p.item.changes le)
