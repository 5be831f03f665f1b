-- The rows of a range and of the next one are those of both; and the definition of rows admits one list alone.
use Rattle.std.proofs.Common.{◌≡◌, ℕ, zero, suc, ◌<◌, ◌≤◌, ◌+◌, ◌⊎◌, List, [], ◌∷◌, ◌++◌, length, Bool, refl, sym, ap, ◌∙◌, inl, inr, arith, subst, Some, None, Option, Contains, take, ltb as nat_lt}
use Rattle.std.specs.List.{AllByRecursion}
use Rattle.std.proofs.lemmas.List.Elements.{Contains-append_left, Contains-append_right}
use Rattle.std.proofs.lemmas.Bool.{cases_lt}
use Rattle.route_model.specs.Admission.{Admitted}
use Rattle.route_meaning.specs.declared.question.Row.{Row}
use Rattle.route_meaning.specs.declared.question.Spot.{Spot}
use Rattle.route_meaning.specs.declared.question.Event.{Event}
use Rattle.route_meaning.specs.declared.question.Select.{Select}
use Rattle.route_meaning.specs.declared.question.RowsQuestion.{RowsQuestion}
use Rattle.route_meaning.specs.declared.question.EventsQuestion.{EventsQuestion}
use Rattle.route_meaning.specs.Merged.{Placed}
use Rattle.route_meaning.specs.Rows.{row_number, spot_number, IsAbove, IsWithin, IsRange, AreRising, IsRow, AreRows, IsAnswer, most_rows}
use Rattle.route_meaning.specs.Events.{IsEventsAnswer}
use Rattle.route_meaning.proofs.api.Sorting.{all_weaker, all_append}

-- ---- neighbouring ranges

rising_append : (mid : ℕ) (xs ys : List Row) → AreRising xs → AreRising ys → AllByRecursion (λ r. row_number r ≤ mid) xs → AllByRecursion (λ r. mid < row_number r) ys → AreRising (xs ++ ys)
rising_append mid [] ys a b low high = b
rising_append mid (x ∷ xs) ys a b low high =
    let le : row_number x ≤ mid = low.0 in
    (all_append _ xs ys a.0 (all_weaker _ _ (λ y h. let lt : mid < row_number y = h in omega arith) ys high), rising_append mid xs ys a.1 b low.1 high)

above_earlier : (low : Option Spot) (mid : Spot) (n : ℕ) → IsRange low (Some mid) → spot_number mid < n → IsAbove low n
above_earlier None mid n r lt = tt
above_earlier (Some l) mid n r lt = let le : spot_number l ≤ spot_number mid = r in omega arith

within_later : (mid : Spot) (high : Option Spot) (n : ℕ) → IsRange (Some mid) high → n ≤ spot_number mid → IsWithin high n
within_later mid None n r le = tt
within_later mid (Some h) n r le = let le' : spot_number mid ≤ spot_number h = r in omega arith

pub AreRows-joined : (ps : List (Placed Admitted)) (moment : ℕ) (select : Select) (low : Option Spot) (mid : Spot) (high : Option Spot) (xs ys : List Row) → IsRange low (Some mid) → IsRange (Some mid) high → AreRows ps moment select low (Some mid) xs → AreRows ps moment select (Some mid) high ys → AreRows ps moment select low high (xs ++ ys)
AreRows-joined ps moment select low mid high xs ys r1 r2 a b = record {
  rising = rising_append (spot_number mid) xs ys a.rising b.rising (all_weaker _ _ (λ r h. h.within) xs a.only) (all_weaker _ _ (λ r h. h.above) ys b.only);
  only = all_append _ xs ys
      (all_weaker _ _ (λ r h. record { selected = h.selected; above = h.above; within = within_later mid high (row_number r) r2 h.within; holds = h.holds }) xs a.only)
      (all_weaker _ _ (λ r h. record { selected = h.selected; above = above_earlier low mid (row_number r) r1 h.above; within = h.within; holds = h.holds }) ys b.only);
  each = λ row h.
      elim (cases_lt (spot_number mid) (row_number row)) [
        | inl lt ↦ Contains-append_right xs ys row (b.each row (record { selected = h.selected; above = lt; within = h.within; holds = h.holds }))
        | inr le ↦ Contains-append_left xs ys row (a.each row (record { selected = h.selected; above = h.above; within = le; holds = h.holds }))
      ];
}

-- ---- one list of rows, one answer

first_or_later : (y : Row) (ys : List Row) (r : Row) → Contains (y ∷ ys) r → (y ≡ r) ⊎ Contains ys r
first_or_later y ys r (zero, lt, e) = inl e
first_or_later y ys r (suc k, lt, e) = inr (k, omega arith, e)

above_all : (n : ℕ) (ys : List Row) (r : Row) → AllByRecursion (λ next. n < row_number next) ys → Contains ys r → n < row_number r
above_all n [] r a c = absurd (omega (arith, c.1))
above_all n (y ∷ ys) r a c =
    elim (first_or_later y ys r c) [
      | inl e ↦ let lt : n < row_number y = a.0 in subst (λ (s : Row). n < row_number s) e lt
      | inr later ↦ above_all n ys r a.1 later
    ]

not_first : (x : Row) (xs ys : List Row) → AllByRecursion (λ next. row_number x < row_number next) xs → AllByRecursion (Contains (x ∷ ys)) xs → AllByRecursion (Contains ys) xs
not_first x [] ys a c = tt
not_first x (r ∷ xs) ys a c = (
  elim (first_or_later x ys r c.0) [ inl e ↦ absurd (let lt : row_number x < row_number r = a.0 in let same : row_number x ≡ row_number r = ap row_number e in omega arith) | inr later ↦ later ],
  not_first x xs ys a.1 c.1,
)

one_list : (xs ys : List Row) → AreRising xs → AreRising ys → AllByRecursion (Contains ys) xs → AllByRecursion (Contains xs) ys → xs ≡ ys
one_list [] [] a b c d = refl
one_list [] (y ∷ ys) a b c d = absurd (omega (arith, d.0.1))
one_list (x ∷ xs) [] a b c d = absurd (omega (arith, c.0.1))
one_list (x ∷ xs) (y ∷ ys) a b c d =
    let same : x ≡ y = elim (first_or_later y ys x c.0) [
      | inl e ↦ sym e
      | inr later ↦ elim (first_or_later x xs y d.0) [
        | inl e ↦ e
        | inr later' ↦ absurd (let low : row_number y < row_number x = above_all (row_number y) ys x b.0 later in let high : row_number x < row_number y = above_all (row_number x) xs y a.0 later' in omega arith)
      ]
    ] in
    let c' : AllByRecursion (Contains (x ∷ ys)) xs = subst (λ (r : Row). AllByRecursion (Contains (r ∷ ys)) xs) (sym same) c.1 in
    let d' : AllByRecursion (Contains (y ∷ xs)) ys = subst (λ (r : Row). AllByRecursion (Contains (r ∷ xs)) ys) same d.1 in
    λ i. same i ∷ one_list xs ys a.1 b.1 (not_first x xs ys a.0 c') (not_first y ys xs b.0 d') i

pub AreRows-one : (ps : List (Placed Admitted)) (moment : ℕ) (select : Select) (low high : Option Spot) (xs ys : List Row) → AreRows ps moment select low high xs → AreRows ps moment select low high ys → xs ≡ ys
AreRows-one ps moment select low high xs ys a b = one_list xs ys a.rising b.rising (all_weaker _ _ (λ r h. b.each r h) xs a.only) (all_weaker _ _ (λ r h. a.each r h) ys b.only)

pub rows-one : (ps : List (Placed Admitted)) (q : RowsQuestion) (xs ys : List Row) (m n : Bool) → IsAnswer ps q xs m → IsAnswer ps q ys n → (xs ≡ ys) × (m ≡ n)
rows-one ps q xs ys m n a b =
    let same : a.all ≡ b.all = AreRows-one ps q.moment q.select q.after None a.all b.all a.are b.are in
    let firsts : take most_rows a.all ≡ take most_rows b.all = ap (take most_rows) same in
    let counts : nat_lt most_rows (length a.all) ≡ nat_lt most_rows (length b.all) = ap (λ (l : List Row). nat_lt most_rows (length l)) same in
    (a.first ∙ (firsts ∙ sym b.first), a.rest ∙ (counts ∙ sym b.rest))

pub events-one : (ps : List (Placed Admitted)) (q : EventsQuestion) (xs ys : List Event) (m n : Bool) → IsEventsAnswer ps q xs m → IsEventsAnswer ps q ys n → (xs ≡ ys) × (m ≡ n)
events-one ps q xs ys m n a b = (a.first ∙ sym b.first, a.rest ∙ sym b.rest)
