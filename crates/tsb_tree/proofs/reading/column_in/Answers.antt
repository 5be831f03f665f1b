use Rattle.std.proofs.Common.{sym, subst, refl}
use Rattle.tsb_node.specs.Decoded.{decoded_column}
use Rattle.tsb_node.specs.Views.{represents_column}
use Rattle.tsb_node.proofs.OneNode.{page_one}
use Rattle.version_model.specs.Pages.{ColumnNode}
use Rattle.tsb_tree.specs.Refusals.{BlamesNone}
use Rattle.tsb_tree.proofs.Unread.{column_blames_none}
use Rattle.tsb_tree.proofs.reading.column_in.Goals as goal

pub returns-in-Ok-clause-represents_node : goal.returns-in-Ok-clause-represents_node
returns-in-Ok-clause-represents_node c k parts start current represents_node = (page_one c.args.page.now _ _ (represents_column (decoded_column c.in-Ok.decoded) c.in-Ok.ensures.column) represents_node, tt)

pub returns-in-Ok-clause-is : goal.returns-in-Ok-clause-is
returns-in-Ok-clause-is c = represents_column (decoded_column c.in-Ok.decoded) c.in-Ok.ensures.column

pub returns-in-Err-clause-represents_node : goal.returns-in-Err-clause-represents_node
returns-in-Err-clause-represents_node c k parts start current represents_node = (
  tt,
  subst BlamesNone (sym c.unread.ensures) (column_blames_none c.args.page.now c.in-Err.fault c.args.n (ColumnNode k parts start current) c.in-Err.ensures.column represents_node k parts start current refl),
)
