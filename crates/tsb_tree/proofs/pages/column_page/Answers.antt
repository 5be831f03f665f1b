use Rattle.std.proofs.Common.{arith}
use Rattle.tsb_tree.proofs.Shaping.{can_be_column, column_represents}
use Rattle.tsb_tree.proofs.pages.column_page.Goals as goal

pub write_column-requires-clause-valid : goal.write_column-requires-clause-valid
write_column-requires-clause-valid c = can_be_column c.args.whole.now c.new.result c.args.current _ (omega (arith, c.new.ensures.number)) c.deref.ensures.value c.requires.whole

pub returns : goal.returns
returns c = record { represents_node = column_represents c.args.whole.now c.new.result c.args.current _ c.write_column.new.page (omega (arith, c.new.ensures.number)) c.deref.ensures.value c.write_column.ensures.written }
