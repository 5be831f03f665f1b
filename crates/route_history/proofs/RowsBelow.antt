-- Rows below a key: further, and one more.
use Rattle.std.proofs.Common.{◌≡◌, ℕ, zero, suc, ◌<◌, ◌≤◌, List, [], ◌∷◌, ◌++◌, length, true, false, refl, sym, ap, ◌∙◌, inl, inr, arith, Some, None, Option, take}
use Rattle.std.specs.List.{AllByRecursion}
use Rattle.std.proofs.lemmas.List.Elements.{Contains-append_left, Contains-append_right}
use Rattle.std.proofs.lemmas.Bool.{cases_lt, lt-ltb, le-ltb}
use Rattle.std.proofs.lemmas.List.{length-append}
use Rattle.route_model.specs.Admission.{Admitted}
use Rattle.route_meaning.specs.declared.question.Row.{Row}
use Rattle.route_meaning.specs.declared.question.Spot.{Spot}
use Rattle.route_meaning.specs.declared.question.RowsQuestion.{RowsQuestion}
use Rattle.route_meaning.specs.Merged.{Placed}
use Rattle.route_meaning.specs.Holds.{Holds}
use Rattle.route_meaning.specs.Rows.{Selects, row_number, spot_number, IsAbove, IsRange, AreRising, AreRows, IsAnswer, most_rows}
use Rattle.route_meaning.proofs.api.Sorting.{all_weaker, all_append}
use Rattle.route_meaning.proofs.api.Ranges.{AreRows-joined}
use Rattle.route_history.specs.Walks.{IsRowBelow, AreRowsBelow, IsRowAt}

rising_append : (mid : ℕ) (xs ys : List Row) → AreRising xs → AreRising ys → AllByRecursion (λ r. row_number r < mid) xs → AllByRecursion (λ r. mid ≤ row_number r) ys → AreRising (xs ++ ys)
rising_append mid [] ys a b low high = b
rising_append mid (x ∷ xs) ys a b low high =
    let le : row_number x < mid = low.0 in
    (all_append _ xs ys a.0 (all_weaker _ _ (λ y h. let lt : mid ≤ row_number y = h in omega arith) ys high), rising_append mid xs ys a.1 b low.1 high)

module _ (ps : List (Placed Admitted)) (q : RowsQuestion) where
  -- no row that holds has a number from `at` on and below `to`
  abbrev pub NoRows : ℕ → ℕ → Type 0
  NoRows at to = (row : Row) → Selects q.select row.peer row.prefix → IsAbove q.after (row_number row) → Holds ps q.moment row.peer row.prefix row.route → at ≤ row_number row → row_number row < to → ⊥

  higher : (at to : ℕ) (rows : List Row) → at ≤ to → AllByRecursion (IsRowBelow ps q at) rows → AllByRecursion (IsRowBelow ps q to) rows
  higher at to rows le a = all_weaker _ _ (λ r h. record { selected = h.selected; above = h.above; below = (let lt : row_number r < at = h.below in omega arith); holds = h.holds }) rows a

  pub rows_pass : (at to : ℕ) (rows : List Row) → at ≤ to → NoRows at to → AreRowsBelow ps q at rows → AreRowsBelow ps q to rows
  rows_pass at to rows le none are = record {
    rising = are.rising;
    only = higher at to rows le are.only;
    each = λ row h. elim (cases_lt (row_number row) at) [
      | inl lt ↦ are.each row (record { selected = h.selected; above = h.above; below = lt; holds = h.holds })
      | inr ge ↦ absurd (none row h.selected h.above h.holds ge h.below)
    ];
  }

  pub rows_gain : (at key : ℕ) (row : Row) (rows : List Row) → at ≤ key → NoRows at key → IsRowAt ps q key (Some row) → AreRowsBelow ps q at rows → AreRowsBelow ps q (suc key) (rows ++ row ∷ [])
  rows_gain at key row rows le none there are =
      let is : row_number row ≡ key = there.0 in
      record {
        rising = rising_append key rows (row ∷ []) are.rising (tt, tt) (all_weaker _ _ (λ r h. let lt : row_number r < at = h.below in omega arith) rows are.only) (omega arith, tt);
        only = all_append _ rows (row ∷ []) (higher at (suc key) rows (omega arith) are.only) (record { selected = there.1; above = there.2; below = omega arith; holds = there.3 }, tt);
        each = λ other h. elim (cases_lt (row_number other) at) [
          | inl lt ↦ Contains-append_left rows (row ∷ []) other (are.each other (record { selected = h.selected; above = h.above; below = lt; holds = h.holds }))
          | inr ge ↦ elim (cases_lt (row_number other) key) [
            | inl below ↦ absurd (none other h.selected h.above h.holds ge below)
            | inr not_below ↦ (
                let at_key : row_number other ≡ key = (let b : row_number other < suc key = h.below in omega arith) in
                let same : other ≡ row = there.4 other at_key h.holds in
                Contains-append_right rows (row ∷ []) other (0, omega arith, sym same))
          ]
        ];
      }

  abbrev spot_of : Row → Spot
  spot_of row = record { peer = row.peer; prefix = row.prefix }

  -- the rows up to a row and those after it
  pub rows_up_to : (row : Row) (rows : List Row) → AreRowsBelow ps q (suc (row_number row)) rows → AreRows ps q.moment q.select q.after (Some (spot_of row)) rows
  rows_up_to row rows are = record {
    rising = are.rising;
    only = all_weaker _ _ (λ r h. record { selected = h.selected; above = h.above; within = (let lt : row_number r < suc (row_number row) = h.below in omega arith); holds = h.holds }) rows are.only;
    each = λ r h. are.each r (record { selected = h.selected; above = h.above; below = (let le : row_number r ≤ row_number row = h.within in omega arith); holds = h.holds });
  }

  pub rows_all : (at : ℕ) (rows : List Row) → ((row : Row) → Selects q.select row.peer row.prefix → IsAbove q.after (row_number row) → Holds ps q.moment row.peer row.prefix row.route → at ≤ row_number row → ⊥) → AreRowsBelow ps q at rows → AreRows ps q.moment q.select q.after None rows
  rows_all at rows none are = record {
    rising = are.rising;
    only = all_weaker _ _ (λ r h. record { selected = h.selected; above = h.above; within = tt; holds = h.holds }) rows are.only;
    each = λ r h. elim (cases_lt (row_number r) at) [
      | inl lt ↦ are.each r (record { selected = h.selected; above = h.above; below = lt; holds = h.holds })
      | inr ge ↦ absurd (none r h.selected h.above h.holds ge)
    ];
  }

take_whole : (n : ℕ) (rows : List Row) → length rows ≤ n → take n rows ≡ rows
take_whole zero [] le = refl
take_whole zero (r ∷ rows) le = absurd (omega arith)
take_whole (suc n) [] le = refl
take_whole (suc n) (r ∷ rows) le = ap (λ l. r ∷ l) (take_whole n rows (omega arith))

take_front : (n : ℕ) (rows more : List Row) → length rows ≡ n → take n (rows ++ more) ≡ rows
take_front zero [] more e = refl
take_front zero (r ∷ rows) more e = absurd (omega arith)
take_front (suc n) [] more e = absurd (omega arith)
take_front (suc n) (r ∷ rows) more e = ap (λ l. r ∷ l) (take_front n rows more (omega arith))

above_range : (after : Option Spot) (row : Row) → IsAbove after (row_number row) → IsRange after (Some (record { peer = row.peer; prefix = row.prefix }))
above_range None row h = tt
above_range (Some low) row h = let lt : spot_number low < row_number row = h in omega arith

-- all rows, and they are few
pub answer_few : (ps : List (Placed Admitted)) (q : RowsQuestion) (rows : List Row) → length rows ≤ most_rows → AreRows ps q.moment q.select q.after None rows → IsAnswer ps q rows false
answer_few ps q rows few are = record { all = rows; are = are; first = sym (take_whole most_rows rows few); rest = sym (le-ltb most_rows (length rows) few) }

-- as many rows as an answer has, and one more
pub answer_full : (ps : List (Placed Admitted)) (q : RowsQuestion) (rows later : List Row) (row : Row) → length rows ≡ most_rows → IsAbove q.after (row_number row)
    → AreRows ps q.moment q.select q.after (Some (record { peer = row.peer; prefix = row.prefix })) (rows ++ row ∷ [])
    → AreRows ps q.moment q.select (Some (record { peer = row.peer; prefix = row.prefix })) None later
    → IsAnswer ps q rows true
answer_full ps q rows later row full above are rest =
    let joined = AreRows-joined ps q.moment q.select q.after (record { peer = row.peer; prefix = row.prefix }) None (rows ++ row ∷ []) later (above_range q.after row above) tt are rest in
    record {
      all = (rows ++ row ∷ []) ++ later;
      are = joined;
      first = sym (ap (take most_rows) (append_append rows row later) ∙ take_front most_rows rows (row ∷ later) full);
      rest = sym (lt-ltb most_rows (length ((rows ++ row ∷ []) ++ later)) (let e = length-append (rows ++ row ∷ []) later in let f = length-append rows (row ∷ []) in omega (arith, e, f, full)));
    }
  where
    append_append : (xs : List Row) (x : Row) (ys : List Row) → (xs ++ x ∷ []) ++ ys ≡ xs ++ x ∷ ys
    append_append [] x ys = refl
    append_append (y ∷ xs) x ys = ap (λ l. y ∷ l) (append_append xs x ys)
