use Rattle.tsb_node.proofs.api.Blocks.{leaf_begins, leaf_whole, leaf_made, column_begins, column_whole, column_made}
use Rattle.tsb_node.proofs.laws.blocks_begin_as_their_nodes.Goals as goal

pub returns : goal.returns
returns c = record {
  leaves = λ leaf octets. (λ is. (leaf_begins leaf octets is, is.ended, leaf_whole leaf octets is), λ is. leaf_made leaf octets is.0 is.1 is.2);
  columns = λ column octets. (λ is. (column_begins column octets is, is.ended, column_whole column octets is), λ is. column_made column octets is.0 is.1 is.2);
}
