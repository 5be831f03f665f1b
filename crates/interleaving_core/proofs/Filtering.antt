-- The rows up to a spot are the first of the rows that are left, and exactly those of their range.
use Rattle.std.proofs.Common.{◌≡◌, ℕ, ◌<◌, List, [], ◌∷◌, ◌++◌, Bool, true, refl, sym, ap, ◌∙◌, inl, inr, arith, Some, None, Option, Contains, filter, append-nil}
use Rattle.std.specs.List.{AllByRecursion}
use Rattle.std.specs.Prelude.{nat_le}
use Rattle.std.proofs.lemmas.Bool.{cases_Bool, leb-true, leb-false, le-leb}
use Rattle.route_model.specs.Admission.{Admitted}
use Rattle.route_meaning.specs.declared.question.Row.{Row}
use Rattle.route_meaning.specs.declared.question.Spot.{Spot}
use Rattle.route_meaning.specs.declared.question.Select.{Select}
use Rattle.route_meaning.specs.Merged.{Placed}
use Rattle.route_meaning.specs.Rows.{row_number, spot_number, AreRising, AreRows}
use Rattle.route_meaning.proofs.api.Sorting.{all_weaker, all_filter}
use Rattle.route_meaning.proofs.api.There.{has_later, first_or_later}
use Rattle.interleaving_core.specs.declared.step.Reach.{Reach}
use Rattle.interleaving_core.specs.declared.step.Reach.TheVariants.{UpTo, Further, End}
use Rattle.interleaving_core.specs.Turns.{is_further, rows_up_to, added_rows}

-- is the row not above the number?
abbrev is_low : ℕ → Row → Bool
is_low n row = nat_le (row_number row) n

-- above a number, none is left
none_low : (n : ℕ) (rows : List Row) → AllByRecursion (λ row. n < row_number row) rows → filter (is_low n) rows ≡ []
none_low n [] all = refl
none_low n (row ∷ rows) all = elim (cases_Bool (is_low n row)) [
  | inl low ↦ absurd (let le = leb-true (row_number row) n low in let lt : n < row_number row = all.0 in omega arith)
  | inr high ↦ rw high (none_low n rows all.1)
]

-- the low rows of a rising list are its first
pub low_first : (n : ℕ) (rows : List Row) → AreRising rows → (later : List Row) × (rows ≡ filter (is_low n) rows ++ later)
low_first n [] rising = ([], refl)
low_first n (row ∷ rows) rising = elim (cases_Bool (is_low n row)) [
  | inl low ↦ (let rest = low_first n rows rising.1 in (rest.0, rw low (ap (λ (l : List Row). row ∷ l) rest.1)))
  | inr high ↦ (row ∷ rows, rw high (rw (none_low n rows (all_weaker _ _ (λ next h. let lt : row_number row < row_number next = h in let above = leb-false (row_number row) n high in omega arith) rows rising.0)) refl))
]

rising_filter : (p : Row → Bool) (rows : List Row) → AreRising rows → AreRising (filter p rows)
rising_filter p [] rising = tt
rising_filter p (row ∷ rows) rising = elim (cases_Bool (p row)) [
  | inl is_so ↦ rw is_so (all_filter _ p rows rising.0, rising_filter p rows rising.1)
  | inr not_so ↦ rw not_so (rising_filter p rows rising.1)
]

-- what passes has passed
all_passed : (P : Row → Type 0) (p : Row → Bool) (rows : List Row) → AllByRecursion P rows → AllByRecursion (λ row. P row × (p row ≡ true)) (filter p rows)
all_passed P p [] all = tt
all_passed P p (row ∷ rows) all = elim (cases_Bool (p row)) [
  | inl is_so ↦ rw is_so ((all.0, is_so), all_passed P p rows all.1)
  | inr not_so ↦ rw not_so (all_passed P p rows all.1)
]

passes : (p : Row → Bool) (rows : List Row) (r : Row) → p r ≡ true → Contains rows r → Contains (filter p rows) r
passes p [] r is_so h = absurd (omega (arith, h.1))
passes p (row ∷ rows) r is_so h = elim (first_or_later row rows r h) [
  | inl here ↦ (let passed : p row ≡ true = ap p here ∙ is_so in rw passed (0, omega arith, here))
  | inr later ↦ elim (cases_Bool (p row)) [
    | inl passed ↦ rw passed (has_later row (filter p rows) r (passes p rows r is_so later))
    | inr not_ ↦ rw not_ (passes p rows r is_so later)
  ]
]

-- of the rows above low those up to a spot are the rows of that range
pub up_to_spot : (ps : List (Placed Admitted)) (moment : ℕ) (select : Select) (low : Option Spot) (spot : Spot) (rows : List Row) → AreRows ps moment select low None rows → AreRows ps moment select low (Some spot) (rows_up_to spot rows)
up_to_spot ps moment select low spot rows are = record {
  rising = rising_filter (is_low (spot_number spot)) rows are.rising;
  only = all_weaker _ _ (λ row h. record { selected = h.0.selected; above = h.0.above; within = leb-true (row_number row) (spot_number spot) h.1; holds = h.0.holds }) (rows_up_to spot rows) (all_passed _ (is_low (spot_number spot)) rows are.only);
  each = λ row h. passes (is_low (spot_number spot)) rows row (le-leb (row_number row) (spot_number spot) h.within) (are.each row (record { selected = h.selected; above = h.above; within = tt; holds = h.holds }));
}

-- what a turn adds are the first of the rows that are left, and all of them where it goes to the end
pub added_first : (low : Option Spot) (reach : Reach) (left : List Row) → AreRising left → (later : List Row) × (left ≡ added_rows low reach left ++ later) × (reach ≡ End → later ≡ [])
added_first low (UpTo spot) left rising = elim (cases_Bool (is_further low spot)) [
  | inl is_so ↦ (let first = low_first (spot_number spot) left rising in (first.0, rw is_so first.1, λ e. absurd (cc)))
  | inr not_so ↦ (left, rw not_so refl, λ e. absurd (cc))
]
added_first low (Further n) left rising = (left, refl, λ e. absurd (cc))
added_first low End left rising = ([], sym (append-nil left), λ e. refl)
