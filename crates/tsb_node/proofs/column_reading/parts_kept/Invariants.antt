use Rattle.std.proofs.Common.{ℕ, List, Option}
use Rattle.version_model.specs.declared.part.Part.{Part}
use Rattle.tsb_node.specs.Columns.{part_octets}
use Rattle.tsb_node.specs.inner.PartReading.{AreParts}
use Rattle.tsb_node.proofs.RowLaws.{HasKept}
use Rattle.tsb_node.proofs.column_reading.parts_kept.Given as goal

abbrev pub invariant-loop : goal.invariant-loop
invariant-loop l = (start : ℕ) (end : Option ℕ) (parts : List Part) → AreParts start end l.count l.bytes parts → HasKept part_octets parts l.kept.items l.counter l.rest
