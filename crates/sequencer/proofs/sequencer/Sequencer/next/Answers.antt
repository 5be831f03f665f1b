use Rattle.std.proofs.Common.{List, refl, sym, subst}
use Rattle.sequencer.specs.Lanes.{Waiting, IsOpen, NoneOpen}
use Rattle.std.proofs.lemmas.Bool.{false≢true}
use Rattle.sequencer.specs.First.{IsFirstLane, IsNext}
use Rattle.sequencer.specs.inner.Searching.{NoneWaits}
use Rattle.sequencer.proofs.Releasing.{none_waits, none_open}
use Rattle.sequencer.proofs.sequencer.Sequencer.next.Goals as goal

pub returns-in_default-clause-none : goal.returns-in_default-clause-none
returns-in_default-clause-none c = subst NoneOpen c.self.view_is (none_waits c.self.inside.lanes.items (subst NoneWaits c.deref.ensures.value c.in_default.ensures.none))

pub returns-then-not-is_open-clause-none : goal.returns-then-not-is_open-clause-none
returns-then-not-is_open-clause-none c =
    let f = subst (λ (l : List Waiting). IsFirstLane l c.in-Some.first.number c.in-Some.first.time) c.deref.ensures.value c.in-Some.ensures.some in
    subst NoneOpen c.self.view_is
    (none_open c.self.inside.lanes.items c.in-Some.first.number c.in-Some.first.time c.self.invariant f
    (λ o. false≢true (c.if-not-is_open.ensures.1 (subst (λ (l : List Waiting). IsOpen l c.in-Some.first.time) (sym c.deref-2.ensures.value) o))))

pub returns-clause-some : goal.returns-clause-some
returns-clause-some c =
    let f = subst (λ (l : List Waiting). IsFirstLane l c.in-Some.first.number c.in-Some.first.time) c.deref.ensures.value c.in-Some.ensures.some in
    let o = subst (λ (l : List Waiting). IsOpen l c.in-Some.first.time) c.deref-2.ensures.value (c.if-not-is_open.ensures.0 refl) in
    subst (λ (l : List Waiting). IsNext l c.in-Some.first.number) c.self.view_is (record { time = c.in-Some.first.time; first = f; below = o })
