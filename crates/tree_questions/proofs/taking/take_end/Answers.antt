use Rattle.std.proofs.Common.{◌≤◌, ◌∙◌, Some, ap, sym, subst}
use Rattle.route_meaning.specs.declared.question.RowsQuestion.{RowsQuestion}
use Rattle.version_model.specs.Looks.{IsReached}
use Rattle.version_model.specs.Ranges.{high_or}
use Rattle.tsb_walk.specs.Answers.{reached_as}
use Rattle.route_history.specs.Fronts.{front_number}
use Rattle.route_history.specs.Stamps.{last_stamp}
use Rattle.route_history.specs.Walks.{Reports, Gathered, IsSame, Rose}
use Rattle.tree_questions.specs.inner.Taking.{IsOnward}
use Rattle.tree_questions.proofs.Turned.{rows_same}
use Rattle.tree_questions.proofs.Onward.{onward_over, onward_back, onward_on, onward_rose, from_below, none_from, either_way, ok_weaker}
use Rattle.tree_questions.proofs.taking.take_end.Goals as goal

pub returns-in_default-clause-taken : goal.returns-in_default-clause-taken
returns-in_default-clause-taken c = λ from all ps on t gathered none. c.next_look.ensures.gathered all ps t gathered

pub returns-in_default-clause-onward : goal.returns-in_default-clause-onward
returns-in_default-clause-onward c = onward_over (front_number c.args.cursor.now.front) (front_number c.next_look.new.self.front) (ap front_number (c.next_look.ensures.over c.in_default.is))

pub returns-then-not-is_above-clause-taken : goal.returns-then-not-is_above-clause-taken
returns-then-not-is_above-clause-taken c = λ from all ps on t gathered none. c.next_look.ensures.gathered all ps t gathered

pub returns-then-not-is_above-clause-onward : goal.returns-then-not-is_above-clause-onward
returns-then-not-is_above-clause-onward c = subst (IsOnward (front_number c.args.cursor.now.front)) (sym c.in-Some.ensures.from) (onward_back (front_number c.args.cursor.now.front) (Some c.in-Some.look.from) c.in-Some.ensures.onward)

pub returns-in-Some-past_from-clause-taken : goal.returns-in-Some-past_from-clause-taken
returns-in-Some-past_from-clause-taken c = λ from all ps on t gathered none.
    let d = c.next_look.new.self in
    let e = c.take_reached.new.self in
    let at = c.in-Some.look.from in
    let s = last_stamp c.args.cursor.now.question.moment in
    let same = c.next_look.ensures.question in
    let t' : Reports all ps d.question.moment = subst (λ (q : RowsQuestion). Reports all ps q.moment) (sym same) t in
    let now = c.next_look.ensures.gathered all ps t gathered in
    let up : from ≤ at = from_below from c.args.last.now (front_number c.args.cursor.now.front) at on c.in-Some.ensures.onward (c.is_above.ensures.0 (cc c.if-not-is_above.false)) in
    let past : IsReached all s at (reached_as c.in-Some-past_from.reached) = c.in-Some-past_from.ensures.past all s (none_from all s from at (high_or c.args.high.now) up none) in
    let here : IsReached all (last_stamp d.question.moment) at (reached_as c.in-Some-past_from.reached) = subst (λ (q : RowsQuestion). IsReached all (last_stamp q.moment) at (reached_as c.in-Some-past_from.reached)) (sym same) past in
    either_way c.take_reached.result (Gathered all ps e) (IsSame d e) (λ s. rows_same all ps d e s now) (c.take_reached.ensures.taken at all ps c.in-Some.ensures.from t' now here) c.take_reached.ensures.same

pub returns-in-Some-past_from-clause-onward : goal.returns-in-Some-past_from-clause-onward
returns-in-Some-past_from-clause-onward c =
    let d = c.next_look.new.self in
    let e = c.take_reached.new.self in
    let at = c.in-Some.look.from in
    let old = front_number c.args.cursor.now.front in
    let come : IsOnward old (Some at) = onward_back old (Some at) c.in-Some.ensures.onward in
    either_way c.take_reached.result (IsOnward old (front_number e.front)) (IsSame d e)
    (λ s. subst (IsOnward old) (sym (ap front_number s.front ∙ c.in-Some.ensures.from)) come)
    (ok_weaker c.take_reached.result (Rose (Some at) (front_number e.front)) (IsOnward old (front_number e.front)) (λ r. onward_on old (Some at) (front_number e.front) come (onward_rose (Some at) (front_number e.front) r)) (c.take_reached.ensures.rose at c.in-Some.ensures.from c.in-Some-past_from.ensures.onward))
    c.take_reached.ensures.same
