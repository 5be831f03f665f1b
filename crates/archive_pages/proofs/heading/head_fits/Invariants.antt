use Rattle.std.proofs.Common.{take}
use Rattle.std.specs.List.{AllByRecursion}
use Rattle.archive_head.specs.Head.{IsLane}
use Rattle.archive_pages.proofs.heading.head_fits.Given as goal

abbrev pub invariant-loop-lane : goal.invariant-loop-lane
invariant-loop-lane l = AllByRecursion IsLane (take l.lane-index l.head.lanes)
