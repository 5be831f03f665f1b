use Rattle.std.proofs.Common.{◌≡◌, ◌≤◌, ◌*◌, length, take}
use Rattle.std.specs.List.{flat_map, AllByRecursion}
use Rattle.route_model.specs.Encoding.{segment, IsSegment}
use Rattle.route_model.proofs.measuring.each_segment_len.Given as goal

abbrev pub invariant-loop-s : goal.invariant-loop-s
invariant-loop-s l = record {
  len : l.len ≡ length (flat_map segment (take l.s-index l.segments));
  few : l.len ≤ 1022 * l.s-index;
  valid : AllByRecursion IsSegment (take l.s-index l.segments);
}
