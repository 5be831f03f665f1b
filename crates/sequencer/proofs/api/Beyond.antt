-- What is next after some first times.
use Rattle.std.proofs.Common.{ℕ, ◌<◌, List, length}
use Rattle.sequencer.specs.Lanes.{Waiting}
use Rattle.sequencer.specs.Ahead.{beyond}
use Rattle.sequencer.specs.First.{IsNext}
use Rattle.sequencer.proofs.Aheads as aheads

-- it is one of the collectors
pub next_in : (ns : List ℕ) (lanes : List Waiting) (c : ℕ) → IsNext (beyond ns lanes) c → c < length lanes
next_in ns lanes c next = aheads.next_in ns lanes c next
