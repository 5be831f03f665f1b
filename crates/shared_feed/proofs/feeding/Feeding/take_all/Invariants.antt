-- the feed got past the records so far
use Rattle.std.proofs.Common.{◌++◌, ℕ, List, map, take}
use Rattle.std.specs.Prelude.{IsSome}
use Rattle.board.specs.Views.{View}
use Rattle.mrt_records.specs.Values.{Reported, reported}
use Rattle.service.specs.Outputs.{OutputState}
use Rattle.service.specs.declared.limits.BatchLimits.{BatchLimits}
use Rattle.shared_feed.specs.inner.Feeding.{IsAfter}
use Rattle.shared_feed.proofs.feeding.Feeding.take_all.Given as goal

abbrev pub invariant-loop-item : goal.invariant-loop-item
invariant-loop-item g l =
    (c : ℕ) (limit : BatchLimits) (v : View) (records : List Reported) (was : OutputState) → IsAfter (IsSome g.N.OnDisk.disk) c limit v records l.initial.self l.initial.pass was l.initial.out
    → IsAfter (IsSome g.N.OnDisk.disk) c limit v (records ++ map reported (take l.item-index l.items)) l.self l.pass was l.out
