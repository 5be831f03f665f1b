use Rattle.std.proofs.Common.{◌<◌, List, length, arith, sym, subst}
use Rattle.std.specs.List.{slice_set}
use Rattle.sequencer.specs.Lanes.{Waiting, Raises, HasMarkAbove}
use Rattle.sequencer.proofs.api.Calls.{raises_lanes, not_above}
use Rattle.sequencer.proofs.sequencer.Sequencer.raise.Goals as goal

pub returns-clause-raised : goal.returns-clause-raised
returns-clause-raised c =
    let lanes : List Waiting = c.self.inside.lanes.items in
    let lt : c.args.collector < length lanes = subst (λ (l : List Waiting). c.args.collector < length l) (sym c.self.view_is) c.requires in
    subst (λ (l : List Waiting). Raises l c.args.collector c.args.mark (slice_set lanes c.args.collector c.set_mark.new.self)) c.self.view_is
    (raises_lanes lanes c.args.collector c.args.mark c.index_mut-lane.result.now c.set_mark.new.self lt c.index_mut-lane.ensures.value (omega (arith, c.if-number.false, c.number.ensures.number, c.number-2.ensures.number, c.mark.ensures)) c.set_mark.ensures.mark c.set_mark.ensures.times)

pub returns-clause-back : goal.returns-clause-back
returns-clause-back c =
    let lanes : List Waiting = c.self.inside.lanes.items in
    let lt : c.args.collector < length lanes = subst (λ (l : List Waiting). c.args.collector < length l) (sym c.self.view_is) c.requires in (
      λ e. absurd cc,
      λ above. not_above lanes c.args.collector c.args.mark c.index_mut-lane.result.now lt c.index_mut-lane.ensures.value (omega (arith, c.if-number.false, c.number.ensures.number, c.number-2.ensures.number, c.mark.ensures)) (subst (λ (l : List Waiting). HasMarkAbove l c.args.collector c.args.mark) (sym c.self.view_is) above),
    )
