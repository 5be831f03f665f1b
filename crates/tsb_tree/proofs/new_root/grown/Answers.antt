use Rattle.std.proofs.Common.{◌<◌, arith}
use Rattle.tsb_tree.proofs.new_root.grown.Goals as goal

pub returns-clause-laid : goal.returns-clause-laid
returns-clause-laid c next can =
    let room : c.args.change.unused < c.args.homes = omega (arith, c.if-change-homes.false) in
    c.in_ok-lay_root.ensures.laid c.args.homes next room can
