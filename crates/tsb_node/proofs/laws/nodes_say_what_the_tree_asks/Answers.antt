use Rattle.tsb_node.proofs.ViewLaws.{children_are, child_is_of, column_parts_are, spot_part, old_parts_are, old_part}
use Rattle.tsb_node.proofs.laws.nodes_say_what_the_tree_asks.Goals as goal

pub returns : goal.returns
returns c = record {
  children = children_are;
  child = child_is_of;
  parts = column_parts_are;
  part = spot_part;
  old_parts = old_parts_are;
  old_part = old_part;
}
