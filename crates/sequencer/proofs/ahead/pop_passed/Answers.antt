use Rattle.std.proofs.Common.{get_or, arith}
use Rattle.std.proofs.lemmas.Option.{slice_get-get_or}
use Rattle.sequencer.proofs.Aheads.{taken_none, taken_more, taken_all}
use Rattle.sequencer.proofs.ahead.pop_passed.Goals as goal

pub loop-number-init : goal.loop-number-init
loop-number-init c = taken_none c.args.passed.now c.args.lanes.now

pub loop-number-preserved : goal.loop-number-preserved
loop-number-preserved c =
    let ns = c.args.passed.now in
    let i = c.loop-number.number in
    let now = c.loop-number.lanes in
    let w = get_or now i c.index-lanes-number.result in
    let low = c.loop-number-test.true in
    let count = c.requires in
    let len = c.loop-number.invariant.count in
    taken_more ns c.args.lanes.now now i (get_or ns i 0) w c.pop_passed.new.self c.loop-number.invariant (slice_get-get_or ns i 0 low) (slice_get-get_or now i c.index-lanes-number.result (omega (arith, low, count, len))) (omega (arith, low, count, len)) c.pop_passed.ensures.mark c.pop_passed.ensures.times

pub returns-clause-times : goal.returns-clause-times
returns-clause-times c = taken_all c.args.passed.now c.args.lanes.now c.loop-number.lanes c.loop-number.number c.loop-number-test.false c.loop-number.invariant
