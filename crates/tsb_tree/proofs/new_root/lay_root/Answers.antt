use Rattle.std.proofs.Common.{arith}
use Rattle.tsb_tree.proofs.new_root.lay_root.Goals as goal

pub returns-clause-laid : goal.returns-clause-laid
returns-clause-laid c homes next lt can =
    let over = c.in_ok-lay_image.ensures in
    record {
      distinct = over.distinct;
      below = over.below homes lt can.below;
      few = omega (arith, over.few, can.few);
      onward = omega (arith, can.onward);
      used = omega (arith, can.used);
      inside = omega (arith, lt);
    }
