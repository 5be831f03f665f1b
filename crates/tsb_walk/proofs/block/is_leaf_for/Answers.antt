use Rattle.std.proofs.Common.{◌≡◌}
use Rattle.tsb_walk.proofs.Blocks.{found_leaf}
use Rattle.tsb_walk.proofs.block.is_leaf_for.Goals as goal

pub returns-in-Ok : goal.returns-in-Ok
returns-in-Ok c = λ leaf of.
    let same : leaf.bounds ≡ c.in-Ok.wide = cc (c.in-Ok.is, c.leaf_head.ensures.leaf leaf of.begins) in
    c.is_wider.ensures.1 (found_leaf c.args.bounds.now c.in-Ok.wide c.args.octets.now leaf of same)

pub returns-in-Err : goal.returns-in-Err
returns-in-Err c = λ leaf of. absurd (cc (c.in-Err.is, c.leaf_head.ensures.leaf leaf of.begins))
