use Rattle.std.proofs.Common.{◌≡◌, ◌≤◌, ◌*◌, length, take}
use Rattle.std.specs.List.{flat_map, AllByRecursion}
use Rattle.route_model.specs.Encoding.{attribute, IsAttribute}
use Rattle.route_model.proofs.measuring.each_attribute_len.Given as goal

abbrev pub invariant-loop-a : goal.invariant-loop-a
invariant-loop-a l = record {
  len : l.len ≡ length (flat_map attribute (take l.a-index l.attributes));
  few : l.len ≤ 65539 * l.a-index;
  valid : AllByRecursion IsAttribute (take l.a-index l.attributes);
}
