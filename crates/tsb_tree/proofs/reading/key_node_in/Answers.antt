use Rattle.std.proofs.Common.{sym, subst, refl}
use Rattle.tsb_node.specs.Decoded.{decoded_key_node}
use Rattle.tsb_node.specs.Views.{represents_key_node}
use Rattle.tsb_node.proofs.OneNode.{page_one}
use Rattle.version_model.specs.Pages.{KeyNode}
use Rattle.tsb_tree.specs.Refusals.{BlamesNone}
use Rattle.tsb_tree.proofs.Unread.{key_node_blames_none}
use Rattle.tsb_tree.proofs.reading.key_node_in.Goals as goal

pub returns-in-Ok-clause-represents_node : goal.returns-in-Ok-clause-represents_node
returns-in-Ok-clause-represents_node c level k children represents_node = (page_one c.args.page.now _ _ (represents_key_node (decoded_key_node c.in-Ok.decoded) c.in-Ok.ensures.key_node) represents_node, tt)

pub returns-in-Ok-clause-is : goal.returns-in-Ok-clause-is
returns-in-Ok-clause-is c = represents_key_node (decoded_key_node c.in-Ok.decoded) c.in-Ok.ensures.key_node

pub returns-in-Err-clause-represents_node : goal.returns-in-Err-clause-represents_node
returns-in-Err-clause-represents_node c level k children represents_node = (
  tt,
  subst BlamesNone (sym c.unread.ensures) (key_node_blames_none c.args.page.now c.in-Err.fault c.args.n (KeyNode level k children) c.in-Err.ensures.key_node represents_node level k children refl),
)
