use Rattle.std.proofs.Common.{ℕ, List, ◌≤◌}
use Rattle.std.specs.BTreeMap.{btree_map_len}
use Rattle.version_model.specs.Versions.{Version}
use Rattle.version_model.specs.Ranges.{high_or}
use Rattle.tsb_runs.specs.inner.Latest.{AreLatest}
use Rattle.tsb_runs.proofs.Steps.{AreTaken}
use Rattle.tsb_runs.proofs.live.live_of.Given as goal

abbrev pub invariant-loop-key : goal.invariant-loop-key
invariant-loop-key l = (versions : List Version) (s from : ℕ) → from ≤ high_or l.high → AreLatest versions s from l.initial.latest → AreTaken versions s from (high_or l.high) l.rows.items l.latest

abbrev pub decreases-loop-key : goal.decreases-loop-key
decreases-loop-key l = btree_map_len l.latest
