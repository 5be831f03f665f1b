use Rattle.std.proofs.Common.{length, ◌+◌, ◌*◌, ◌≤◌}
use Rattle.route_model.specs.Widths.{width_of}
use Rattle.bgp_update.proofs.SegmentFields.{PathSoFar}
use Rattle.bgp_update.proofs.segments.read_segments.Given as goal

abbrev pub invariant-loop-rest : goal.invariant-loop-rest
invariant-loop-rest l = record {
  reads : PathSoFar (width_of l.width) l.fn.bytes l.rest l.path.items;
  few : 2 * length l.path.items + length l.rest ≤ length l.fn.bytes;
}

abbrev pub decreases-loop-rest : goal.decreases-loop-rest
decreases-loop-rest l = length l.rest
