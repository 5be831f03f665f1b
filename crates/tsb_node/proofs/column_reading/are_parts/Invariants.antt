use Rattle.tsb_node.specs.Columns.{part_octets}
use Rattle.tsb_node.specs.inner.PartReading.{IsPartBefore}
use Rattle.tsb_node.proofs.RowLaws.{HasRead}
use Rattle.tsb_node.proofs.column_reading.are_parts.Given as goal

abbrev pub invariant-loop : goal.invariant-loop
invariant-loop l = HasRead part_octets (IsPartBefore l.end) (λ p. p.start) l.start l.counter l.last l.bytes l.rest
