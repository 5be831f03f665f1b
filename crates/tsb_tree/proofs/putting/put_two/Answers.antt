use Rattle.std.proofs.Common.{arith}
use Rattle.tsb_tree.proofs.putting.put_two.Goals as goal

pub returns-clause-laid : goal.returns-clause-laid
returns-clause-laid c homes next level lt room can =
    let one = c.in_ok-lay_image.ensures in
    let two = c.in_ok-lay_image-2.ensures in
    record {
      distinct = two.distinct;
      below = two.below homes room (one.below homes lt can.below);
      few = omega (arith, one.few, two.few, can.few);
      onward = omega (arith, can.onward);
      used = omega (arith, can.used);
      inside = omega (arith, room);
    }
