use Rattle.std.proofs.Common.{◌≡◌, ◌∙◌, ℕ, suc, ◌≤◌, List, [], ◌∷◌, length, refl, sym, subst, arith}
use Rattle.std.specs.Vec.Iter.{into_iter_items}
use Rattle.route_meaning.specs.declared.question.ChangedQuestion.{ChangedQuestion}
use Rattle.version_model.specs.Ranges.{high_or}
use Rattle.tsb_walk.specs.Touched.{AreTouched, HasWithin, NoneTouched}
use Rattle.route_history.specs.Changes.{HasChanged, IsChangedSoFar, IsTaking, LeapsOver, ReportsChanged, TakesKey, changed_end, changed_from}
use Rattle.route_history.proofs.ChangedTaking.{answered, takes_first, takes_rest}
use Rattle.route_history.proofs.changed.ChangedCursor.take_keys.Goals as goal

no_keys : (l : List ℕ) → length l ≡ 0 → l ≡ []
no_keys [] none = refl
no_keys (key ∷ l) none = absurd (omega (arith, none))

pub loop-key-init : goal.loop-key-init
loop-key-init c = record {
  question = refl;
  front = refl;
  taking = λ all ps from e t has within touched.
      takes_first all ps c.args.self.now from (high_or c.args.high) (into_iter_items c.into_iter-key-iterator.result) e has within
      (subst (AreTouched all (changed_from c.args.self.now.question) (changed_end c.args.self.now.question) from (high_or c.args.high)) (sym c.into_iter-key-iterator.ensures.into_iter_gives.0) touched);
}

pub returns-then-not-goes_on-clause-taken : goal.returns-then-not-goes_on-clause-taken
returns-then-not-goes_on-clause-taken c = λ all ps from e t has within touched.
    let q = c.args.self.now.question in
    let i = c.loop-key.invariant in
    let high = high_or c.args.high in
    let k = i.taking all ps from e t has within touched in
    let there = subst (AreTouched all (changed_from q) (changed_end q) k.at high) c.in-Some.ensures.steps.0 k.touched in
    let d = c.take_key.new.self in
    let clause = subst (λ (r : ChangedQuestion). ReportsChanged all ps r → IsChangedSoFar ps r k.at c.loop-key.self.spots.items c.loop-key.self.more → k.at ≤ c.in-Some.key → NoneTouched all (changed_from r) (changed_end r) k.at c.in-Some.key → HasWithin all c.in-Some.key (changed_from r) (changed_end r) → TakesKey ps r c.in-Some.key d c.in_ok-goes_on.goes_on) i.question (c.in_ok-goes_on.ensures.taken all ps k.at) in
    let taken = subst (TakesKey ps q c.in-Some.key d) c.if-not-goes_on.true (clause t k.so there.0 there.3 there.2) in
    answered ps q d (c.in_ok-goes_on.ensures.question ∙ i.question) taken.0 taken.1

pub loop-key-preserved : goal.loop-key-preserved
loop-key-preserved c =
    let q = c.args.self.now.question in
    let i = c.loop-key.invariant in
    record {
      question = c.in_ok-goes_on.ensures.question ∙ i.question;
      front = c.in_ok-goes_on.ensures.over.0 c.if-not-goes_on.false ∙ i.front;
      taking = λ all ps from e t has within touched.
          let high = high_or c.args.high in
          let k = i.taking all ps from e t has within touched in
          let there = subst (AreTouched all (changed_from q) (changed_end q) k.at high) c.in-Some.ensures.steps.0 k.touched in
          let d = c.take_key.new.self in
          let clause = subst (λ (r : ChangedQuestion). ReportsChanged all ps r → IsChangedSoFar ps r k.at c.loop-key.self.spots.items c.loop-key.self.more → k.at ≤ c.in-Some.key → NoneTouched all (changed_from r) (changed_end r) k.at c.in-Some.key → HasWithin all c.in-Some.key (changed_from r) (changed_end r) → TakesKey ps r c.in-Some.key d c.in_ok-goes_on.goes_on) i.question (c.in_ok-goes_on.ensures.taken all ps k.at) in
          let taken = subst (TakesKey ps q c.in-Some.key d) c.if-not-goes_on.false (clause t k.so there.0 there.3 there.2) in
          record { at = suc c.in-Some.key; within = there.1; touched = there.4; so = taken };
    }

pub returns-clause-taken : goal.returns-clause-taken
returns-clause-taken c = λ all ps from e t has within touched.
    let q = c.args.self.now.question in
    let i = c.loop-key.invariant in
    let high = high_or c.args.high in
    let k = i.taking all ps from e t has within touched in
    let step = c.in-None.ensures.steps in
    let rest = into_iter_items c.loop-key.key-iterator in
    let leap = subst (λ (r : ChangedQuestion). LeapsOver r high c.front_at-self.result) i.question c.front_at-self.ensures in
    subst (λ (r : ChangedQuestion). HasChanged ps r c.front_at-self.result c.loop-key.self.spots.items c.loop-key.self.more) (sym i.question)
    (takes_rest all ps q high c.front_at-self.result rest c.loop-key.self.spots.items c.loop-key.self.more (no_keys rest (omega (arith, c.loop-key.key-iterator.rest.ok, step.0))) t leap k)
