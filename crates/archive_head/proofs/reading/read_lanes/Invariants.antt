use Rattle.std.proofs.Common.{◌≡◌, length}
use Rattle.std.specs.List.{AllByRecursion}
use Rattle.archive_head.specs.Head.{IsLane}
use Rattle.archive_head.specs.inner.Places.{lanes_from}
use Rattle.archive_head.proofs.reading.read_lanes.Given as goal

abbrev pub invariant-loop-i : goal.invariant-loop-i
invariant-loop-i l = (l.lanes.items ≡ lanes_from l.octets 0 l.i) × AllByRecursion IsLane l.lanes.items × (length l.lanes.items ≡ l.i)
