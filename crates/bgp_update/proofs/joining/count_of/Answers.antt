use Rattle.std.proofs.Common.{ap, arith}
use Rattle.std.proofs.lemmas.List.{drop_all}
use Rattle.bgp_update.specs.Joining.{count}
use Rattle.bgp_update.proofs.Joins.{counted}
use Rattle.bgp_update.proofs.joining.count_of.Goals as goal

pub loop-s-preserved : goal.loop-s-preserved
loop-s-preserved c =
    let w = c.weight_of-sum.ensures.weight in
    let one = counted c.args.path.now c.loop-s.s-index c.loop-s.sum c.s-item.result c.loop-s-test.true c.s-item.is c.loop-s.invariant.total in
    record { total = omega (arith, w, one); few = omega (arith, c.weight_of-sum.ensures.few, c.loop-s.invariant.few) }

pub returns : goal.returns
returns c =
    let none = ap count (drop_all c.loop-s.s-index c.args.path.now c.loop-s-test.false) in
    omega (arith, none, c.loop-s.invariant.total)
