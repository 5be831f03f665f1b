-- The words of a board, raised to what a history reaches.
use Rattle.std.proofs.Common.{◌≡◌, ℕ, zero, suc, ◌≤◌, List, [], ◌∷◌, length, refl, ap, arith, zero-le, inl, inr}
use Rattle.std.specs.List.{AllZip, slice_get}
use Rattle.std.specs.Prelude.{slice_index}
use Rattle.std.proofs.lemmas.Bool.{cases_lt}
use Rattle.route_meaning.specs.History.{Intake, History, GoesOn, floor}
use Rattle.board.specs.Past.{Past, GoesOnAs, count_in, reach}

none_beyond : (is : List Intake) (c : ℕ) → length is ≤ c → count_in (slice_get is c) ≡ 0
none_beyond [] c le = refl
none_beyond (i ∷ is) zero le = absurd (omega arith)
none_beyond (i ∷ is) (suc c) le = none_beyond is c (omega arith)

-- all that a history reaches, where this is so of its collectors' words
pub reached_all : (h : History) (n : ℕ) (ns : List ℕ) → length h.intakes ≤ n → ((i : ℕ) → i ≤ n → reach h i ≤ slice_index ns i) → (i : ℕ) → reach h i ≤ slice_index ns i
reached_all h n ns few all zero = all zero zero-le
reached_all h n ns few all (suc c) = elim (cases_lt c n) [
  | inl lt ↦ all (suc c) (omega arith)
  | inr ge ↦ let e = none_beyond h.intakes c (omega arith) in omega (arith, e)
]

pub as_many_in : (is js : List Intake) → AllZip (λ i j. GoesOn (floor i) i j) is js → length js ≡ length is
as_many_in [] [] a = refl
as_many_in [] (j ∷ js) a = absurd a
as_many_in (i ∷ is) [] a = absurd a
as_many_in (i ∷ is) (j ∷ js) a = ap suc (as_many_in is js a.1)

pub as_many : (p q : Past) → GoesOnAs p q → length q.history.intakes ≡ length p.history.intakes
as_many p q g = as_many_in p.history.intakes q.history.intakes g.begins.each
