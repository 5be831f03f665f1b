use Rattle.std.proofs.Common.{◌≡◌, ◌<◌, ℕ, List, length, sym, subst, Some, IfOk}
use Rattle.std.specs.List.{slice_set, slice_get}
use Rattle.sequencer.specs.Lanes.{Waiting, SameLanes, marks}
use Rattle.sequencer.specs.Taking.{IsSieved, MayTakeIn}
use Rattle.sequencer.proofs.api.Calls.{same_lanes, same_right, ready, at_mark, all_sieved, if_ok}
use Rattle.sequencer.proofs.sequencer.Sequencer.sieve.Goals as goal

pub invariant_of-self : goal.invariant_of-self
invariant_of-self c =
    let lanes : List Waiting = c.self.inside.lanes.items in
    let lt : c.args.collector < length lanes = subst (λ (l : List Waiting). c.args.collector < length l) (sym c.self.view_is) c.requires in
    same_right lanes c.args.collector c.index_mut-lane.result.now c.reserve.new.self lt c.index_mut-lane.ensures.value c.reserve.ensures.mark c.reserve.ensures.times c.self.invariant

pub returns-in_err-reserve-clause-same : goal.returns-in_err-reserve-clause-same
returns-in_err-reserve-clause-same c =
    let lanes : List Waiting = c.self.inside.lanes.items in
    let lt : c.args.collector < length lanes = subst (λ (l : List Waiting). c.args.collector < length l) (sym c.self.view_is) c.requires in
    subst (λ (l : List Waiting). SameLanes l (slice_set lanes c.args.collector c.reserve.new.self)) c.self.view_is
    (same_lanes lanes c.args.collector c.index_mut-lane.result.now c.reserve.new.self lt c.index_mut-lane.ensures.value c.reserve.ensures.mark c.reserve.ensures.times)

pub invariant_of-self-2 : goal.invariant_of-self-2
invariant_of-self-2 c =
    let lanes : List Waiting = c.self.inside.lanes.items in
    let lt : c.args.collector < length lanes = subst (λ (l : List Waiting). c.args.collector < length l) (sym c.self.view_is) c.requires in
    same_right lanes c.args.collector c.index_mut-lane.result.now c.reserve.new.self lt c.index_mut-lane.ensures.value c.reserve.ensures.mark c.reserve.ensures.times c.self.invariant

pub returns-clause-same : goal.returns-clause-same
returns-clause-same c =
    let lanes : List Waiting = c.self.inside.lanes.items in
    let lt : c.args.collector < length lanes = subst (λ (l : List Waiting). c.args.collector < length l) (sym c.self.view_is) c.requires in
    subst (λ (l : List Waiting). SameLanes l (slice_set lanes c.args.collector c.reserve.new.self)) c.self.view_is
    (same_lanes lanes c.args.collector c.index_mut-lane.result.now c.reserve.new.self lt c.index_mut-lane.ensures.value c.reserve.ensures.mark c.reserve.ensures.times)

pub returns-clause-sieved : goal.returns-clause-sieved
returns-clause-sieved c =
    let lanes : List Waiting = c.self.inside.lanes.items in
    let lt : c.args.collector < length lanes = subst (λ (l : List Waiting). c.args.collector < length l) (sym c.self.view_is) c.requires in
    let all = subst (λ (n : ℕ). IfOk c.sieve.result (IsSieved n c.args.times.now)) c.mark.ensures (all_sieved c.sieve.result c.mark.result c.args.times.now c.sieve.ensures.timely c.sieve.ensures.late c.sieve.ensures.mark) in
    if_ok (IsSieved c.reserve.new.self.mark c.args.times.now) (λ s. (mark : ℕ) → slice_get (marks c.args.self.now) c.args.collector ≡ Some mark → IsSieved mark c.args.times.now s) c.sieve.result
    (λ s sieved mark here. at_mark lanes c.args.collector s c.index_mut-lane.result.now c.reserve.new.self c.args.times.now lt c.index_mut-lane.ensures.value c.reserve.ensures.mark sieved mark (subst (λ (l : List Waiting). slice_get (marks l) c.args.collector ≡ Some mark) (sym c.self.view_is) here))
    all

pub returns-clause-ready : goal.returns-clause-ready
returns-clause-ready c =
    let lanes : List Waiting = c.self.inside.lanes.items in
    let lt : c.args.collector < length lanes = subst (λ (l : List Waiting). c.args.collector < length l) (sym c.self.view_is) c.requires in
    let all = subst (λ (n : ℕ). IfOk c.sieve.result (IsSieved n c.args.times.now)) c.mark.ensures (all_sieved c.sieve.result c.mark.result c.args.times.now c.sieve.ensures.timely c.sieve.ensures.late c.sieve.ensures.mark) in
    if_ok (IsSieved c.reserve.new.self.mark c.args.times.now) (MayTakeIn (slice_set lanes c.args.collector c.reserve.new.self) c.args.collector) c.sieve.result
    (λ s sieved. ready lanes c.args.collector s c.reserve.new.self c.args.times.now lt sieved c.in_ok-reserve.ensures.room)
    all
