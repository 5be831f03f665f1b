use Rattle.tsb_node.proofs.WrittenNow.{leaf_now}
use Rattle.tsb_node.proofs.leaf.start_leaf.Goals as goal

pub returns : goal.returns
returns c = leaf_now _ c.start.new.sheet c.start.ensures
