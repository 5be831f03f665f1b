use Rattle.std.proofs.Common.{◌∙◌, arith, sym}
use Rattle.route_model.proofs.Sizes.{route_not_there, route_there}
use Rattle.route_model.proofs.admission_measuring.has_route.Goals as goal

pub loop-left-preserved : goal.loop-left-preserved
loop-left-preserved c =
    (omega (arith, c.loop-left.invariant.0), route_not_there c.args.before.now c.loop-left.left c.index-before-left.result c.args.row.now c.loop-left-test.true c.loop-left.invariant.0 c.index-before-left.is (sym c.announces.ensures ∙ c.if-announces.false) c.loop-left.invariant.1)

pub returns-then-announces : goal.returns-then-announces
returns-then-announces c =
    sym (route_there c.args.before.now c.loop-left.left c.index-before-left.result c.args.row.now c.loop-left-test.true c.loop-left.invariant.0 c.index-before-left.is (sym c.announces.ensures ∙ c.if-announces.true))
