use Rattle.tsb_node.proofs.OneNode.{column_one, old_column_one, key_node_one, page_one, block_one}
use Rattle.tsb_node.proofs.laws.nodes_are_one.Goals as goal

pub returns : goal.returns
returns c = record {
  columns = column_one;
  old_columns = old_column_one;
  key_nodes = key_node_one;
  pages = λ a b octets p q. page_one octets a b p q;
  blocks = λ a b octets p q. block_one octets a b p q;
}
