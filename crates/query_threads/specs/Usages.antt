-- What is reported of the collectors of a history.
use Rattle.std.specs.Prelude.{◌≡◌, ℕ, List, Some, length, map, slice_get}
use Rattle.route_meaning.specs.History.{History}
use Rattle.interleaving_core.specs.World.{resume_of}
use Rattle.query_threads.specs.declared.usage.Lane.{Lane}

-- each collector's feed goes on where the history has it
pub record AreLanes (lanes : List Lane) (h : History) : Type 0 where
  pub number : length lanes ≡ length h.intakes
  pub each : (c : ℕ) (lane : Lane) → slice_get lanes c ≡ Some lane → slice_get (map resume_of h.intakes) c ≡ Some lane.resume
