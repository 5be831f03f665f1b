use Rattle.std.proofs.Common.{◌-◌, ◌/◌, None, subst}
use Rattle.version_model.specs.Sizes.{IsSplitPoint}
use Rattle.tsb_tree.proofs.Halving.{split_there}
use Rattle.tsb_tree.proofs.dividing.split_key_of.Goals as goal

pub unreachable-requires : goal.unreachable-requires
unreachable-requires c = split_there c.args.leaf.now c.requires.full (subst (λ n. IsSplitPoint c.args.leaf.now ((n - 3131) / 2) None) c.octets.ensures.octets c.in_default.ensures.point)
