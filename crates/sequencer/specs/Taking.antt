-- What was sieved, and how it is taken in.
use Rattle.std.specs.Prelude.{ℕ, List, [], ◌++◌, ◌≡◌, ◌≤◌, length, Some, slice_get, slice_set}
use Rattle.sequencer.specs.declared.late.Sieved.{Sieved}
use Rattle.sequencer.specs.Late.{greatest, timely, lates}
use Rattle.sequencer.specs.Lanes.{Waiting, marks, waiting_times}

-- these times are sieved at the mark
pub record IsSieved (present : ℕ) (times : List ℕ) (s : Sieved) : Type 0 where
  pub timely : s.timely.items ≡ timely (λ t. t) present [] times
  pub late : s.late.items ≡ lates (λ t. t) present [] 0 times
  pub mark : s.mark ≡ greatest present times

-- some times were sieved at the collector's present mark, and there is room for those that aren't late
pub record MayTakeIn (lanes : List Waiting) (c : ℕ) (s : Sieved) : Type 0 where
  pub lane : Waiting
  pub here : slice_get lanes c ≡ Some lane
  pub times : List ℕ
  pub sieved : IsSieved lane.mark times s
  pub room : length s.timely.items ≤ lane.room

-- the times that aren't late wait after those of the collector, its mark is raised, and nothing else changed
pub record TakesIn (old : List Waiting) (c : ℕ) (s : Sieved) (new : List Waiting) : Type 0 where
  pub lane : Waiting
  pub here : slice_get old c ≡ Some lane
  pub marks : marks new ≡ slice_set (marks old) c s.mark
  pub times : waiting_times new ≡ slice_set (waiting_times old) c (lane.times ++ s.timely.items)
