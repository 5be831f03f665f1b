use Rattle.std.proofs.Common.{◌≡◌, drop}
use Rattle.bgp_update.specs.AttributeFields.{value_of}
use Rattle.bgp_update.proofs.attribute.value_in.Given as goal

abbrev pub invariant-loop-a : goal.invariant-loop-a
invariant-loop-a l = value_of l.kind l.attributes ≡ value_of l.kind (drop l.a-index l.attributes)
