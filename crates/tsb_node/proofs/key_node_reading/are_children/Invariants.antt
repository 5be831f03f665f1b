use Rattle.tsb_node.specs.KeyNodes.{child_octets, IsChildEntry}
use Rattle.tsb_node.proofs.RowLaws.{HasRead}
use Rattle.tsb_node.proofs.key_node_reading.are_children.Given as goal

abbrev pub invariant-loop : goal.invariant-loop
invariant-loop l = HasRead child_octets (IsChildEntry l.bounds) (λ c. c.low) l.bounds.low l.counter l.last l.bytes l.rest
