use Rattle.std.proofs.Common.{◌≡◌, ◌<◌, ℕ, length, get_or, false}
use Rattle.bgp_update.specs.AttributeFields.{IsAttributeField, NoneTwice}
use Rattle.route_model.proofs.api.Sequences.{ReadSoFar}
use Rattle.bgp_update.proofs.AttributeFields.{Has}
use Rattle.bgp_update.proofs.attribute.attribute_list.Given as goal

abbrev pub invariant-loop-rest : goal.invariant-loop-rest
invariant-loop-rest l = record {
  reads : ReadSoFar IsAttributeField l.fn.bytes l.rest l.attributes.items;
  distinct : NoneTwice l.attributes.items;
  many : length l.seen ≡ 256;
  seen : (k : ℕ) → k < 256 → get_or l.seen k false ≡ Has k l.attributes.items;
}

abbrev pub decreases-loop-rest : goal.decreases-loop-rest
decreases-loop-rest l = length l.rest
