-- What waits of each collector, and what is next.
use Rattle.std.specs.Prelude.{ℕ, List, ◌∷◌, ◌≡◌, ◌<◌, ◌≤◌, map, Some, slice_get, slice_set}
use Rattle.std.specs.List.{AllByRecursion}
use Rattle.route_meaning.specs.Merged.{Placed, placed, merged, IsRising}
use Rattle.route_meaning.specs.History.{first_or}

-- of one collector: the mark, the times that wait, in order, and how many more times need no memory
pub record Waiting : Type 0 where
  pub mark : ℕ
  pub times : List ℕ
  pub room : ℕ

-- the times that wait of each collector
abbrev pub waiting_times : List Waiting → List (List ℕ)
waiting_times lanes = map (λ w. w.times) lanes

-- the marks of the collectors
abbrev pub marks : List Waiting → List ℕ
marks lanes = map (λ w. w.mark) lanes

-- what waits of all collectors, in one order
abbrev pub in_order : List Waiting → List (Placed ℕ)
in_order lanes = merged (λ t. t) (waiting_times lanes)

-- the time is below every mark
abbrev pub IsOpen : List Waiting → ℕ → Type 0
IsOpen lanes t = AllByRecursion (λ w. t < w.mark) lanes

-- the first time that waits, or the mark
abbrev pub bound_of : Waiting → ℕ
bound_of w = first_or (λ t. t) w.mark w.times

-- the times rise and are no later than the mark
pub record IsLane (w : Waiting) : Type 0 where
  pub rising : IsRising (λ t. t) w.times
  pub below : AllByRecursion (λ t. t ≤ w.mark) w.times

-- the first time of the collector c was the next of all and below every mark, and is gone; nothing else changed
pub record Releases (old : List Waiting) (c : ℕ) (new : List Waiting) : Type 0 where
  pub lane : Waiting
  pub time : ℕ
  pub rest : List ℕ
  pub room : ℕ
  pub here : slice_get old c ≡ Some lane
  pub first : lane.times ≡ time ∷ rest
  pub taken : new ≡ slice_set old c (record { mark = lane.mark; times = rest; room = room })
  pub next : in_order old ≡ placed c time ∷ in_order new
  pub below : IsOpen old time

-- no time that waits is below every mark
abbrev pub NoneOpen : List Waiting → Type 0
NoneOpen lanes = AllByRecursion (λ p. IsOpen lanes p.item → ⊥) (in_order lanes)

-- the same marks and the same times
pub record SameLanes (old new : List Waiting) : Type 0 where
  pub marks : marks new ≡ marks old
  pub times : waiting_times new ≡ waiting_times old

-- the mark of the collector is this one now, and nothing else changed
pub record Raises (old : List Waiting) (c mark : ℕ) (new : List Waiting) : Type 0 where
  pub lane : Waiting
  pub here : slice_get old c ≡ Some lane
  pub not_back : lane.mark ≤ mark
  pub marks : marks new ≡ slice_set (marks old) c mark
  pub times : waiting_times new ≡ waiting_times old

-- the collector's mark is above this one
pub record HasMarkAbove (lanes : List Waiting) (c mark : ℕ) : Type 0 where
  pub lane : Waiting
  pub here : slice_get lanes c ≡ Some lane
  pub above : mark < lane.mark
