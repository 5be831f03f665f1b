use Rattle.std.proofs.Common.{◌≡◌, ◌++◌, take, flat_map}
use Rattle.archive_head.specs.Head.{lane_octets}
use Rattle.archive_head.proofs.writing.put_lanes.Given as goal

abbrev pub invariant-loop-lane : goal.invariant-loop-lane
invariant-loop-lane l = l.out.items ≡ l.initial.out.items ++ flat_map lane_octets (take l.lane-index l.lanes)
