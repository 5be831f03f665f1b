use Rattle.std.proofs.Common.{◌≤◌, ◌∙◌, Some, inl, inr, ap, sym, subst}
use Rattle.std.proofs.lemmas.Bool.{cases_lt}
use Rattle.route_meaning.specs.declared.question.RowsQuestion.{RowsQuestion}
use Rattle.version_model.specs.Versions.{found_at}
use Rattle.version_model.specs.Looks.{IsReached, At as ReachAt}
use Rattle.route_history.specs.Fronts.{front_number}
use Rattle.route_history.specs.Stamps.{last_stamp}
use Rattle.route_history.specs.Walks.{Reports, Gathered, IsSame, Rose}
use Rattle.tree_questions.specs.inner.Taking.{IsOnward}
use Rattle.tree_questions.proofs.Turned.{rows_same}
use Rattle.tree_questions.proofs.Onward.{onward_over, onward_back, onward_on, onward_rose, from_below, reached_from, either_way, ok_weaker}
use Rattle.tree_questions.proofs.taking.take_row.Goals as goal

pub returns-in_default-clause-taken : goal.returns-in_default-clause-taken
returns-in_default-clause-taken c = λ from all ps on t gathered reached. c.next_look.ensures.gathered all ps t gathered

pub returns-in_default-clause-onward : goal.returns-in_default-clause-onward
returns-in_default-clause-onward c = onward_over (front_number c.args.cursor.now.front) (front_number c.next_look.new.self.front) (ap front_number (c.next_look.ensures.over c.in_default.is))

pub returns-then-not-is_above-clause-taken : goal.returns-then-not-is_above-clause-taken
returns-then-not-is_above-clause-taken c = λ from all ps on t gathered reached. c.next_look.ensures.gathered all ps t gathered

pub returns-then-not-is_above-clause-onward : goal.returns-then-not-is_above-clause-onward
returns-then-not-is_above-clause-onward c = subst (IsOnward (front_number c.args.cursor.now.front)) (sym c.in-Some.ensures.from) (onward_back (front_number c.args.cursor.now.front) (Some c.in-Some.look.from) c.in-Some.ensures.onward)

pub returns-then-is_past-clause-taken : goal.returns-then-is_past-clause-taken
returns-then-is_past-clause-taken c = λ from all ps on t gathered reached. c.next_look.ensures.gathered all ps t gathered

pub returns-then-is_past-clause-onward : goal.returns-then-is_past-clause-onward
returns-then-is_past-clause-onward c = subst (IsOnward (front_number c.args.cursor.now.front)) (sym c.in-Some.ensures.from) (onward_back (front_number c.args.cursor.now.front) (Some c.in-Some.look.from) c.in-Some.ensures.onward)

pub returns-clause-taken : goal.returns-clause-taken
returns-clause-taken c = λ from all ps on t gathered reached.
    let d = c.next_look.new.self in
    let e = c.take_reached.new.self in
    let at = c.in-Some.look.from in
    let key = c.args.row.key in
    let found = found_at c.args.row.found.stamp c.args.row.found.value.items in
    let same = c.next_look.ensures.question in
    let t' : Reports all ps d.question.moment = subst (λ (q : RowsQuestion). Reports all ps q.moment) (sym same) t in
    let now = c.next_look.ensures.gathered all ps t gathered in
    let up : from ≤ at = from_below from c.args.last.now (front_number c.args.cursor.now.front) at on c.in-Some.ensures.onward (c.is_above.ensures.0 (cc c.if-not-is_above.false)) in
    let above : at ≤ key = elim (cases_lt key at) [ inl lt ↦ absurd (cc (c.is_past.ensures.1 lt, c.if-is_past.false)) | inr ge ↦ ge ] in
    let here : IsReached all (last_stamp d.question.moment) at (ReachAt key found) = subst (λ (q : RowsQuestion). IsReached all (last_stamp q.moment) at (ReachAt key found)) (sym same) (reached_from all (last_stamp c.args.cursor.now.question.moment) from at key found up above reached) in
    either_way c.take_reached.result (Gathered all ps e) (IsSame d e) (λ s. rows_same all ps d e s now) (c.take_reached.ensures.taken at all ps c.in-Some.ensures.from t' now here) c.take_reached.ensures.same

pub returns-clause-onward : goal.returns-clause-onward
returns-clause-onward c =
    let d = c.next_look.new.self in
    let e = c.take_reached.new.self in
    let at = c.in-Some.look.from in
    let old = front_number c.args.cursor.now.front in
    let come : IsOnward old (Some at) = onward_back old (Some at) c.in-Some.ensures.onward in
    let above : at ≤ c.args.row.key = elim (cases_lt c.args.row.key at) [ inl lt ↦ absurd (cc (c.is_past.ensures.1 lt, c.if-is_past.false)) | inr ge ↦ ge ] in
    either_way c.take_reached.result (IsOnward old (front_number e.front)) (IsSame d e)
    (λ s. subst (IsOnward old) (sym (ap front_number s.front ∙ c.in-Some.ensures.from)) come)
    (ok_weaker c.take_reached.result (Rose (Some at) (front_number e.front)) (IsOnward old (front_number e.front)) (λ r. onward_on old (Some at) (front_number e.front) come (onward_rose (Some at) (front_number e.front) r)) (c.take_reached.ensures.rose at c.in-Some.ensures.from above))
    c.take_reached.ensures.same
