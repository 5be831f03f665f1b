use Rattle.std.specs.Vec.Iter.{into_iter_items}
use Rattle.version_model.specs.Entries.{versions_of}
use Rattle.version_model.specs.Versions.{IsRising}
use Rattle.tsb_runs.proofs.Latest.{AreSeen}
use Rattle.tsb_runs.proofs.live.latest_of.Given as goal

abbrev pub invariant-loop-entry : goal.invariant-loop-entry
invariant-loop-entry l = IsRising (versions_of l.fn.entries.items) → AreSeen (versions_of l.fn.entries.items) l.stamp l.from (into_iter_items l.entry-iterator) l.latest
