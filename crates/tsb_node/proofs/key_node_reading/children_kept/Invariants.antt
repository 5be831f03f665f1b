use Rattle.std.proofs.Common.{List}
use Rattle.version_model.specs.declared.child.Child.{Child}
use Rattle.tsb_node.specs.KeyNodes.{child_octets}
use Rattle.tsb_node.specs.inner.ChildReading.{AreChildrenOf}
use Rattle.tsb_node.proofs.RowLaws.{HasKept}
use Rattle.tsb_node.proofs.key_node_reading.children_kept.Given as goal

abbrev pub invariant-loop : goal.invariant-loop
invariant-loop l = (children : List Child) → AreChildrenOf l.bounds l.count l.bytes children → HasKept child_octets children l.kept.items l.counter l.rest
