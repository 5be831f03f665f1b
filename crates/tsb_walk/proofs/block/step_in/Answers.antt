use Rattle.tsb_walk.proofs.Blocks.{fit_leaf, leaf_of}
use Rattle.tsb_walk.proofs.block.step_in.Goals as goal

pub returns-then-not-is_leaf_for-clause-none : goal.returns-then-not-is_leaf_for-clause-none
returns-then-not-is_leaf_for-clause-none c = λ fit.
    let leaf = fit_leaf c.args.place.now c.args.octets.now c.args.key c.args.stamp c.in-LeafBlock.is fit in
    let of = leaf_of c.args.place.now c.args.octets.now leaf.0 leaf.1 in
    absurd (cc (c.is_leaf_for.ensures of.leaf of.of, c.if-not-is_leaf_for.true))

pub returns-else-not-is_leaf_for-clause-step : goal.returns-else-not-is_leaf_for-clause-step
returns-else-not-is_leaf_for-clause-step c = λ fit. fit_leaf c.args.place.now c.args.octets.now c.args.key c.args.stamp c.in-LeafBlock.is fit
