use Rattle.std.proofs.Common.{◌≡◌, List, ℕ, refl, sym, ◌∙◌, ap, subst}
use Rattle.std.proofs.lemmas.Bool.{false≢true}
use Rattle.sequencer.specs.Ahead.{beyond}
use Rattle.sequencer.specs.Lanes.{Waiting, IsOpen, NoneOpen}
use Rattle.sequencer.specs.First.{IsFirstLane, IsNext}
use Rattle.sequencer.specs.inner.Searching.{NoneWaits}
use Rattle.sequencer.proofs.Aheads.{after_open, after_right, open_after}
use Rattle.sequencer.proofs.Releasing.{none_waits, none_open}
use Rattle.sequencer.proofs.sequencer.Sequencer.next_after.Goals as goal

pub returns-in_default-clause-none : goal.returns-in_default-clause-none
returns-in_default-clause-none c =
    let ns = c.ahead.inside.passed.items in
    let lanes = c.self.inside.lanes.items in
    let now : beyond ns lanes ≡ beyond c.args.ahead.now c.args.self.now = ap (λ (l : List ℕ). beyond l lanes) c.ahead.view_is ∙ ap (λ (l : List Waiting). beyond c.args.ahead.now l) c.self.view_is in
    let reported : beyond c.deref-2.result.now c.deref.result.now ≡ beyond ns lanes = ap (λ (l : List ℕ). beyond l c.deref.result.now) c.deref-2.ensures.value ∙ ap (λ (l : List Waiting). beyond ns l) c.deref.ensures.value in
    subst NoneOpen now (none_waits (beyond ns lanes) (subst NoneWaits reported c.in_default.ensures.none))

pub returns-then-not-is_open-clause-none : goal.returns-then-not-is_open-clause-none
returns-then-not-is_open-clause-none c =
    let ns = c.ahead.inside.passed.items in
    let lanes = c.self.inside.lanes.items in
    let now : beyond ns lanes ≡ beyond c.args.ahead.now c.args.self.now = ap (λ (l : List ℕ). beyond l lanes) c.ahead.view_is ∙ ap (λ (l : List Waiting). beyond c.args.ahead.now l) c.self.view_is in
    let reported : beyond c.deref-2.result.now c.deref.result.now ≡ beyond ns lanes = ap (λ (l : List ℕ). beyond l c.deref.result.now) c.deref-2.ensures.value ∙ ap (λ (l : List Waiting). beyond ns l) c.deref.ensures.value in
    let t = c.in-Some.first.time in
    let f = subst (λ (l : List Waiting). IsFirstLane l c.in-Some.first.number t) reported c.in-Some.ensures.some in
    subst NoneOpen now
    (none_open (beyond ns lanes) c.in-Some.first.number t (after_right ns lanes c.self.invariant) f
    (λ o. false≢true (c.if-not-is_open.ensures.1 (subst (λ (l : List Waiting). IsOpen l t) (sym c.deref-3.ensures.value) (open_after ns lanes t o)))))

pub returns-clause-some : goal.returns-clause-some
returns-clause-some c =
    let ns = c.ahead.inside.passed.items in
    let lanes = c.self.inside.lanes.items in
    let now : beyond ns lanes ≡ beyond c.args.ahead.now c.args.self.now = ap (λ (l : List ℕ). beyond l lanes) c.ahead.view_is ∙ ap (λ (l : List Waiting). beyond c.args.ahead.now l) c.self.view_is in
    let reported : beyond c.deref-2.result.now c.deref.result.now ≡ beyond ns lanes = ap (λ (l : List ℕ). beyond l c.deref.result.now) c.deref-2.ensures.value ∙ ap (λ (l : List Waiting). beyond ns l) c.deref.ensures.value in
    let t = c.in-Some.first.time in
    let f = subst (λ (l : List Waiting). IsFirstLane l c.in-Some.first.number t) reported c.in-Some.ensures.some in
    let o = after_open ns lanes t (subst (λ (l : List Waiting). IsOpen l t) c.deref-3.ensures.value (c.if-not-is_open.ensures.0 refl)) in
    subst (λ (l : List Waiting). IsNext l c.in-Some.first.number) now (record { time = t; first = f; below = o })
