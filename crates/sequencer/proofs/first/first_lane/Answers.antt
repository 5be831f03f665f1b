use Rattle.sequencer.proofs.Firsts.{best_more, at_lane, some_all, none_found}
use Rattle.sequencer.proofs.first.first_lane.Goals as goal

pub loop-number-preserved : goal.loop-number-preserved
loop-number-preserved c =
    rw c.better-found.ensures
    (best_more c.args.lanes.now c.loop-number.number c.index-lanes-number.result.times c.loop-number.found c.first.result
    (at_lane c.args.lanes.now c.loop-number.number c.index-lanes-number.result c.loop-number-test.true c.index-lanes-number.is)
    c.first.ensures c.loop-number.invariant)

pub returns-clause-some : goal.returns-clause-some
returns-clause-some c = some_all c.args.lanes.now c.loop-number.number c.loop-number.found c.loop-number-test.false c.loop-number.invariant

pub returns-clause-none : goal.returns-clause-none
returns-clause-none c = none_found c.args.lanes.now c.loop-number.number c.loop-number.found c.loop-number-test.false c.loop-number.invariant
