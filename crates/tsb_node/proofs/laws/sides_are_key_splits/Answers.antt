use Rattle.tsb_node.proofs.ViewLaws.{side_below, side_from}
use Rattle.tsb_node.proofs.laws.sides_are_key_splits.Goals as goal

pub returns : goal.returns
returns c = record { below = side_below; from_key = side_from }
