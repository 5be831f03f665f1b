use Rattle.std.proofs.Common.{arith}
use Rattle.tsb_tree.proofs.Shaping.{past_some, whole_moved}
use Rattle.tsb_tree.proofs.burning.make_room.Goals as goal

pub returns-in-Ok-clause-whole : goal.returns-in-Ok-clause-whole
returns-in-Ok-clause-whole g c =
    whole_moved c.args.whole.now c.pack.new.whole c.in-Ok.block c.requires.whole (past_some c.args.whole.now c.requires.whole (omega (arith, c.if-len-lt-MOST_PARTS.false))) c.in-Ok.ensures.same c.in-Ok.ensures.parts
