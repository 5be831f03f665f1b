-- What a pass has seen.
use Rattle.std.specs.Prelude.{ℕ, zero, suc, ◌≤◌, max, List, [], ◌∷◌, slice_index}
use Rattle.route_meaning.specs.History.{History}
use Rattle.board.specs.Past.{Past, GoesOnAs, reach}

-- A past that was seen, and the numbers that were seen in the board's words: the watermark, then the count of each collector. They may be
-- newer than the past.
pub record View : Type 0 where
  pub past : Past
  pub numbers : List ℕ

-- the watermark that was seen
abbrev pub watermark_of : View → ℕ
watermark_of v = slice_index v.numbers 0

-- how many admissions of the collector c were seen to be durable
abbrev pub durable_of : View → ℕ → ℕ
durable_of v c = slice_index v.numbers (suc c)

-- n at the place i, and the other numbers as they are
abbrev pub with_number : List ℕ → ℕ → ℕ → List ℕ
with_number [] zero n = n ∷ []
with_number [] (suc i) n = 0 ∷ with_number [] i n
with_number (x ∷ xs) zero n = n ∷ xs
with_number (x ∷ xs) (suc i) n = x ∷ with_number xs i n

-- the word i was seen to be n
abbrev pub with_seen : View → ℕ → ℕ → View
with_seen v i n = record { past = v.past; numbers = with_number v.numbers i n }

-- at each place the greater number
abbrev pub greatest : List ℕ → List ℕ → List ℕ
greatest [] ys = ys
greatest (x ∷ xs) [] = x ∷ xs
greatest (x ∷ xs) (y ∷ ys) = max x y ∷ greatest xs ys

-- the past of the other, and at each place the greater number
abbrev pub with_past_of : View → View → View
with_past_of v w = record { past = w.past; numbers = greatest v.numbers w.numbers }

-- no number of the first list is above that of the second
abbrev pub Within : List ℕ → List ℕ → Type 0
Within xs ys = (i : ℕ) → slice_index xs i ≤ slice_index ys i

-- no number is above what the history reaches
abbrev pub Reached : List ℕ → History → Type 0
Reached xs h = (i : ℕ) → slice_index xs i ≤ reach h i

-- the numbers seen are at least those that the history of the view reaches
abbrev pub IsCaughtUp : View → Type 0
IsCaughtUp v = (i : ℕ) → reach v.past.history i ≤ slice_index v.numbers i

-- One view begins another: its past goes on as the other's, and no number fell.
pub record BeginsView (v w : View) : Type 0 where
  pub past : GoesOnAs v.past w.past
  pub numbers : Within v.numbers w.numbers

-- a view begins a past, which reaches all of its numbers
pub record IsFrontOf (p : Past) (v : View) : Type 0 where
  pub past : GoesOnAs v.past p
  pub numbers : Reached v.numbers p.history
