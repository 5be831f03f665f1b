use Rattle.std.proofs.Common.{◌++◌, ℕ, List, sym, subst, ap, ◌∙◌}
use Rattle.std.specs.List.{slice_set}
use Rattle.sequencer.specs.Lanes.{Waiting}
use Rattle.sequencer.specs.Taking.{MayTakeIn, TakesIn}
use Rattle.sequencer.proofs.api.Calls.{takes_in, taken_right, inside}
use Rattle.sequencer.proofs.sequencer.Sequencer.take_in.Goals as goal

pub invariant_of-self : goal.invariant_of-self
invariant_of-self c =
    let lanes : List Waiting = c.self.inside.lanes.items in
    let present = subst (λ (l : List Waiting). MayTakeIn l c.args.collector c.args.sieved.now) (sym c.self.view_is) c.requires.present in
    taken_right lanes c.args.collector c.args.sieved.now c.index_mut-lane.result.now c.set_mark.new.self present (inside lanes c.args.collector c.args.sieved.now present) c.index_mut-lane.ensures.value c.set_mark.ensures.mark
    (c.set_mark.ensures.times ∙ c.push_all.ensures.times ∙ ap (λ (l : List ℕ). c.index_mut-lane.result.now.times ++ l) c.as_slice.ensures.value) c.self.invariant

pub returns : goal.returns
returns c =
    let lanes : List Waiting = c.self.inside.lanes.items in
    let present = subst (λ (l : List Waiting). MayTakeIn l c.args.collector c.args.sieved.now) (sym c.self.view_is) c.requires.present in
    record {
      taken = subst (λ (l : List Waiting). TakesIn l c.args.collector c.args.sieved.now (slice_set lanes c.args.collector c.set_mark.new.self)) c.self.view_is
          (takes_in lanes c.args.collector c.args.sieved.now c.index_mut-lane.result.now c.set_mark.new.self (inside lanes c.args.collector c.args.sieved.now present) c.index_mut-lane.ensures.value c.set_mark.ensures.mark
          (c.set_mark.ensures.times ∙ c.push_all.ensures.times ∙ ap (λ (l : List ℕ). c.index_mut-lane.result.now.times ++ l) c.as_slice.ensures.value));
    }
