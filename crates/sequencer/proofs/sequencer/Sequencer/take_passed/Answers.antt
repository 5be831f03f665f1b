use Rattle.std.proofs.Common.{◌≡◌, List, ℕ, length, sym, ◌∙◌, ap, subst}
use Rattle.std.specs.List.{AllByRecursion}
use Rattle.std.proofs.lemmas.List.{with_items_is}
use Rattle.sequencer.specs.Ahead.{beyond}
use Rattle.sequencer.specs.Lanes.{Waiting, IsLane, marks, waiting_times}
use Rattle.sequencer.proofs.Aheads.{after_marks, after_right, right_as}
use Rattle.sequencer.proofs.sequencer.Sequencer.take_passed.Goals as goal

pub invariant_of-self : goal.invariant_of-self
invariant_of-self c =
    let ns = c.deref.result.now in
    let lanes = c.self.inside.lanes in
    let new = c.pop_passed.new.lanes in
    let was = c.deref_mut.ensures.value in
    let len : length new ≡ lanes.len = c.pop_passed.ensures.count ∙ (ap (λ (l : List Waiting). length l) was ∙ sym lanes.ok.0) in
    subst (AllByRecursion IsLane) (sym (with_items_is lanes new len))
    (right_as new (beyond ns lanes.items) (c.pop_passed.ensures.marks ∙ (ap marks was ∙ sym (after_marks ns lanes.items)))
    (c.pop_passed.ensures.times ∙ ap (λ (l : List Waiting). waiting_times (beyond ns l)) was) (after_right ns lanes.items c.self.invariant))

pub returns : goal.returns
returns c =
    let lanes = c.self.inside.lanes in
    let new = c.pop_passed.new.lanes in
    let ahead = c.args.ahead.now in
    let was : c.deref_mut.result.now ≡ c.args.self.now = c.deref_mut.ensures.value ∙ c.self.view_is in
    let passed : c.deref.result.now ≡ ahead = c.deref.ensures.value ∙ c.ahead.view_is in
    let len : length new ≡ lanes.len = c.pop_passed.ensures.count ∙ (ap (λ (l : List Waiting). length l) c.deref_mut.ensures.value ∙ sym lanes.ok.0) in
    let is = with_items_is lanes new len in
    record {
      taken = record {
        marks = ap marks is ∙ (c.pop_passed.ensures.marks ∙ (ap marks was ∙ sym (after_marks ahead c.args.self.now)));
        times = ap waiting_times is ∙ (c.pop_passed.ensures.times ∙ (ap (λ (l : List Waiting). waiting_times (beyond c.deref.result.now l)) was ∙ ap (λ (l : List ℕ). waiting_times (beyond l c.args.self.now)) passed));
      };
      count = ap (λ (l : List Waiting). length l) is ∙ (c.pop_passed.ensures.count ∙ ap (λ (l : List Waiting). length l) was);
    }
