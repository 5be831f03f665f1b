use Rattle.std.proofs.Common.{ℕ, List, ◌≤◌}
use Rattle.std.specs.BTreeMap.{btree_map_len}
use Rattle.version_model.specs.Ranges.{high_or}
use Rattle.version_model.specs.Versions.{Version}
use Rattle.tree_questions.specs.inner.Gathered.{HasGathered}
use Rattle.tree_questions.proofs.TouchedEntries.{AreTaken}
use Rattle.tree_questions.proofs.touching.Gathering.into_keys.Given as goal

abbrev pub invariant-loop-key : goal.invariant-loop-key
invariant-loop-key l = (all : List Version) (first : ℕ) → l.fn.self.from ≤ high_or l.fn.self.high → HasGathered all first l.fn.self → AreTaken all first l.fn.self.at l.fn.self.from (high_or l.fn.self.high) l.found.items l.keys

abbrev pub decreases-loop-key : goal.decreases-loop-key
decreases-loop-key l = btree_map_len l.keys
