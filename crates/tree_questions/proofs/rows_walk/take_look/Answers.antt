use Rattle.std.proofs.Common.{rules, ◌∙◌, ℕ, ap, sym, subst}
use Rattle.route_meaning.specs.declared.question.RowsQuestion.{RowsQuestion}
use Rattle.version_model.specs.Looks.{IsReached}
use Rattle.tsb_walk.specs.Answers.{reached_as}
use Rattle.tsb_runs.specs.Runs.{IsRun}
use Rattle.route_history.specs.Fronts.{front_number}
use Rattle.route_history.specs.Stamps.{last_stamp}
use Rattle.route_history.specs.Walks.{Reports}
use Rattle.tree_questions.proofs.Going.{less_keys}
use Rattle.tree_questions.proofs.rows_walk.take_look.Goals as goal

pub returns-clause-gathered : goal.returns-clause-gathered
returns-clause-gathered g c = λ all ps r t gathered.
    let d = c.next_look.new.self in
    let same = c.next_look.ensures.question in
    let t' : Reports all ps d.question.moment = subst (λ (q : RowsQuestion). Reports all ps q.moment) (sym same) t in
    let now = c.next_look.ensures.gathered all ps t gathered in
    let reached = c.in_ok-reached.ensures.next all r in
    let then = c.next_key.ensures.stays all r in
    let run = c.in_ok-run.ensures.run then.start then.shown then.shows then.store all then.represents_all in
    let at = c.in-Some.ensures.stamp ∙ ap (λ (q : RowsQuestion). last_stamp q.moment) (sym same) in
    c.in_ok-take_rows.ensures.taken c.in-Some.look.from all ps c.in-Some.ensures.from t' now (subst (λ (s : ℕ). IsReached all s c.in-Some.look.from (reached_as c.in_ok-reached.reached)) at reached)
    (subst (λ (s : ℕ). IsRun all s c.in-Some.look.from c.in_ok-run.run') at run)

pub returns-clause-onward : goal.returns-clause-onward
returns-clause-onward g c = λ e.
    less_keys (front_number c.args.cursor.now.front) (front_number c.take_rows.new.cursor.front) c.in-Some.look.from c.in-Some.ensures.onward (c.in_ok-take_rows.ensures.rose c.in-Some.look.from c.in-Some.ensures.from c.in_ok-reached.ensures.onward) c.key_fits.ensures.fits

pub returns-in_err-reached-clause-blames : goal.returns-in_err-reached-clause-blames
returns-in_err-reached-clause-blames g c = λ all r.
    let b = c.next_key.ensures.blames all r in
    search (rules, b)
