use Rattle.std.proofs.Common.{List, arith, sym, subst}
use Rattle.std.specs.List.{slice_set}
use Rattle.sequencer.specs.Lanes.{Waiting, Releases}
use Rattle.sequencer.specs.First.{IsNext}
use Rattle.sequencer.proofs.api.Calls.{first_in, pops, popped_right}
use Rattle.sequencer.proofs.sequencer.Sequencer.take.Goals as goal

pub index_mut-requires : goal.index_mut-requires
index_mut-requires c =
    let next = subst (λ (l : List Waiting). IsNext l c.args.collector) (sym c.self.view_is) c.requires.next in
    let lt = first_in c.self.inside.lanes.items c.args.collector next.time next.first in
    omega (arith, lt)

pub invariant_of-self : goal.invariant_of-self
invariant_of-self c =
    let next = subst (λ (l : List Waiting). IsNext l c.args.collector) (sym c.self.view_is) c.requires.next in
    popped_right c.self.inside.lanes.items c.args.collector next.time c.index_mut.result.now c.pop.new.self c.self.invariant next.first c.index_mut.ensures.value c.pop.ensures.mark c.pop.ensures.times

pub returns : goal.returns
returns c =
    let lanes : List Waiting = c.self.inside.lanes.items in
    let next = subst (λ (l : List Waiting). IsNext l c.args.collector) (sym c.self.view_is) c.requires.next in
    record {
      released = subst (λ (l : List Waiting). Releases l c.args.collector (slice_set lanes c.args.collector c.pop.new.self)) c.self.view_is
          (pops lanes c.args.collector next.time c.index_mut.result.now c.pop.new.self c.self.invariant next.first next.below c.index_mut.ensures.value c.pop.ensures.mark c.pop.ensures.times);
    }
