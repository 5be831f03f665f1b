use Rattle.std.proofs.Common.{◌≡◌, take, map}
use Rattle.std.specs.List.{AllByRecursion}
use Rattle.archive_head.specs.Head.{IsOlderLane, lane_in_moments}
use Rattle.archive_head.proofs.older.lanes_in_moments.Given as goal

abbrev pub invariant-loop-lane : goal.invariant-loop-lane
invariant-loop-lane l = (l.scaled.items ≡ map (lane_in_moments l.moments) (take l.lane-index l.lanes)) × AllByRecursion (IsOlderLane l.moments) (take l.lane-index l.lanes)
