use Rattle.std.proofs.Common.{ℕ, ap, ◌∙◌, arith}
use Rattle.sequencer.proofs.Leasts.{lowest, lowest_more, lowest_all, take_whole}
use Rattle.sequencer.proofs.first.least_bound.Goals.{then-number, else-number}
use Rattle.sequencer.proofs.first.least_bound.Goals as goal

pub loop-lane-preserved : goal.loop-lane-preserved
loop-lane-preserved c =
    let more = lowest_more c.bound-settled.result c.args.lanes.now c.loop-lane.lane-index c.lane-item.result c.loop-lane-test.true c.lane-item.is in
    let now = c.loop-lane.invariant in
    let bound = c.bound-bound.ensures in
    elim c.if-number.branch [ then-number w ↦ omega (arith, more, now, bound, w.settled-is, w.if-number.true, c.number.ensures.number, c.number-in-loop-lane.ensures.number) | else-number w ↦ omega (arith, more, now, bound, w.settled-is, w.if-number.false, c.number.ensures.number, c.number-in-loop-lane.ensures.number) ]

pub returns : goal.returns
returns c =
    c.loop-lane.invariant
    ∙ (ap (lowest c.bound-settled.result) (take_whole c.loop-lane.lane-index c.args.lanes.now c.loop-lane-test.false)
    ∙ (ap (λ (n : ℕ). lowest n c.args.lanes.now) c.bound-settled.ensures ∙ lowest_all c.args.lanes.now c.index-lanes-0.result c.requires c.index-lanes-0.is))
