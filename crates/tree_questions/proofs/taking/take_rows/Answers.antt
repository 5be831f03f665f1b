use Rattle.std.proofs.Common.{Some, sym, subst}
use Rattle.route_meaning.specs.declared.question.RowsQuestion.{RowsQuestion}
use Rattle.tsb_runs.specs.Runs.{IsRun}
use Rattle.route_history.specs.Fronts.{front_number}
use Rattle.route_history.specs.Stamps.{last_stamp}
use Rattle.route_history.specs.Walks.{Reports}
use Rattle.tree_questions.proofs.Onward.{onward_rose, rose_onward, reached_goes_on}
use Rattle.tree_questions.proofs.taking.take_rows.Goals as goal

pub returns-clause-taken : goal.returns-clause-taken
returns-clause-taken c = λ from all ps at t gathered reached run.
    let d = c.take_reached.new.self in
    let same = c.take_reached.ensures.question in
    let now = c.in_ok-take_reached.ensures.taken from all ps at t gathered reached in
    let rose = c.in_ok-take_reached.ensures.rose from at (reached_goes_on all (last_stamp c.args.cursor.now.question.moment) from c.args.reached reached) in
    c.take_run.ensures.taken from all ps (onward_rose (Some from) (front_number d.front) rose) (subst (λ (q : RowsQuestion). Reports all ps q.moment) (sym same) t) now
    (subst (λ (q : RowsQuestion). IsRun all (last_stamp q.moment) from c.args.run) (sym same) run)

pub returns-clause-rose : goal.returns-clause-rose
returns-clause-rose c = λ from at goes.
    rose_onward (Some from) (front_number c.take_reached.new.self.front) (front_number c.take_run.new.cursor.front) (c.in_ok-take_reached.ensures.rose from at goes) c.take_run.ensures.onward
