use Rattle.std.proofs.Common.{rules, ◌≡◌, ◌<◌, Err, inl, inr, subst, arith}
use Rattle.std.proofs.lemmas.Bool.{cases_lt}
use Rattle.tsb_node.specs.declared.leaf_part.ReadFault.TheVariants.{NotANode}
use Rattle.version_model.specs.Versions.{Answers, found_at}
use Rattle.version_model.specs.Ranges.{high_or}
use Rattle.version_model.specs.Looks.{IsLeastLive}
use Rattle.tsb_walk.specs.Answers.{found_as}
use Rattle.tsb_walk.proofs.Leaves.{none_left, none_high, found_here, live_dead}
use Rattle.tsb_walk.proofs.looks.reached_in.Goals as goal

pub returns-in_default-least-clause-reached : goal.returns-in_default-least-clause-reached
returns-in_default-least-clause-reached c = λ all r leaf begins shows is point.
    let least = subst (IsLeastLive leaf.versions c.args.stamp c.args.from) c.in_default-least.is (c.in-Ok.ensures.next leaf begins) in
    let h = none_left all r leaf.versions (high_or c.args.high.now) c.args.from c.args.stamp shows is point least in
    c.past.ensures.past all c.args.from c.args.stamp h.0 h.1

pub returns-then-not-is_below-clause-reached : goal.returns-then-not-is_below-clause-reached
returns-then-not-is_below-clause-reached c = λ all r leaf begins shows is point.
    let least = subst (IsLeastLive leaf.versions c.args.stamp c.args.from) c.in-Some.is (c.in-Ok.ensures.next leaf begins) in
    elim (cases_lt c.in-Some.key (high_or c.args.high.now)) [
      | inl lt ↦ absurd (cc (c.is_below.ensures.1 lt, c.if-not-is_below.true))
      | inr above ↦ (let h = none_high all r leaf.versions (high_or c.args.high.now) c.args.from c.args.stamp shows is point c.in-Some.key least above in
          c.past-then-not-is_below.ensures.past all c.args.from c.args.stamp h.0 h.1)
    ]

pub returns-in-Ok-Some-clause-reached : goal.returns-in-Ok-Some-clause-reached
returns-in-Ok-Some-clause-reached c = λ all r leaf begins shows is point.
    let least = subst (IsLeastLive leaf.versions c.args.stamp c.args.from) c.in-Some.is (c.in-Ok.ensures.next leaf begins) in
    let below : c.in-Some.key < high_or c.args.high.now = c.is_below.ensures.0 (cc c.if-not-is_below.false) in
    let answers = subst (λ o. Answers leaf.versions c.in-Some.key c.args.stamp (found_as o)) c.in-Ok-Some.field-0-is (c.in-Ok-Some.ensures.found leaf begins) in
    found_here all r leaf.versions (high_or c.args.high.now) c.args.from c.args.stamp shows is point c.in-Some.key (found_at c.in-Ok-Some.found.stamp c.in-Ok-Some.found.value.items) least below answers

pub returns-in-Ok-None-clause-leaf : goal.returns-in-Ok-None-clause-leaf
returns-in-Ok-None-clause-leaf c = λ leaf begins e.
    let least = subst (IsLeastLive leaf.versions c.args.stamp c.args.from) c.in-Some.is (c.in-Ok.ensures.next leaf begins) in
    let answers = subst (λ o. Answers leaf.versions c.in-Some.key c.args.stamp (found_as o)) c.in-Ok-None.field-0-is (c.in-Ok-None.ensures.found leaf begins) in
    live_dead leaf.versions c.in-Some.key c.args.stamp least.1 answers

pub returns-in-Err-clause-leaf : goal.returns-in-Err-clause-leaf
returns-in-Err-clause-leaf c = λ leaf begins e.
    let d : c.found_in.result ≡ Err NotANode = search rules in
    c.found_in.ensures.leaf leaf begins d

pub returns-then-is_before-clause-leaf : goal.returns-then-is_before-clause-leaf
returns-then-is_before-clause-leaf c = λ leaf begins e.
    let least = subst (IsLeastLive leaf.versions c.args.stamp c.args.from) c.in-Some.is (c.in-Ok.ensures.next leaf begins) in
    let back : c.in-Some.key < c.args.from = c.is_before.ensures.0 (cc c.if-is_before.true) in
    omega (arith, least.0, back)
