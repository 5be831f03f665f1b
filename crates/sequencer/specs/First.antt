-- The collector whose first time goes before each other's.
use Rattle.std.specs.Prelude.{ℕ, List, ◌∷◌, ◌≡◌, ◌<◌, ◌≤◌, Some, slice_get}
use Rattle.sequencer.specs.Lanes.{Waiting, waiting_times, IsOpen}

-- the collector's first time goes before each other's, by time and then by number
pub record IsFirstLane (lanes : List Waiting) (c t : ℕ) : Type 0 where
  pub rest : List ℕ
  pub here : slice_get (waiting_times lanes) c ≡ Some (t ∷ rest)
  pub before : (k u : ℕ) (us : List ℕ) → slice_get (waiting_times lanes) k ≡ Some (u ∷ us) → (k < c → t < u) × (c ≤ k → t ≤ u)

-- it is below every mark too, so that it may be taken
pub record IsNext (lanes : List Waiting) (c : ℕ) : Type 0 where
  pub time : ℕ
  pub first : IsFirstLane lanes c time
  pub below : IsOpen lanes time
