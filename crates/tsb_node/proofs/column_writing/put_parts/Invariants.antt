use Rattle.tsb_node.proofs.ColumnWriting.{HasPut}
use Rattle.tsb_node.proofs.column_writing.put_parts.Given as goal

abbrev pub invariant-loop-part : goal.invariant-loop-part
invariant-loop-part g l = HasPut l.parts l.part-index l.at l.initial.sheet l.sheet
