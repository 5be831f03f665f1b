use Rattle.std.proofs.Common.{◌≡◌}
use Rattle.tsb_node.specs.inner.Reading.{after}
use Rattle.tsb_node.proofs.HoldingLaws.{AreWhole}
use Rattle.tsb_node.proofs.leaf_entries.begins_with_entries.Given as goal

abbrev pub invariant-loop : goal.invariant-loop
invariant-loop l = record {
  there : l.rest ≡ after l.counter l.octets;
  whole : AreWhole l.counter l.octets;
}
