use Rattle.std.proofs.Common.{◌∙◌, ℕ, ap, sym, subst}
use Rattle.route_meaning.specs.declared.question.RowsQuestion.{RowsQuestion}
use Rattle.version_model.specs.Looks.{IsReached}
use Rattle.tsb_walk.specs.Answers.{reached_as}
use Rattle.tsb_walk.specs.Looked.{IsLooked, LooksOn}
use Rattle.tsb_runs.specs.Runs.{IsRun}
use Rattle.route_history.specs.Fronts.{front_number}
use Rattle.route_history.specs.Stamps.{last_stamp}
use Rattle.route_history.specs.Walks.{Reports}
use Rattle.tree_questions.proofs.Turned.{rose_on, rows_reported}
use Rattle.tree_questions.proofs.rows_turns.rows_turn.Goals as goal

pub returns-in_ok-take_rows-in-Here-clause-turn : goal.returns-in_ok-take_rows-in-Here-clause-turn
returns-in_ok-take_rows-in-Here-clause-turn g c = λ store all ps r t gathered.
    let from = c.in-Some.look.from in
    let same = c.next_look.ensures.question in
    let t' : Reports all ps c.next_look.new.self.question.moment = subst (λ (q : RowsQuestion). Reports all ps q.moment) (sym same) t in
    let now = c.next_look.ensures.gathered all ps t gathered in
    let at = c.in-Some.ensures.stamp ∙ ap (λ (q : RowsQuestion). last_stamp q.moment) (sym same) in
    let reached = subst (IsLooked store.blocks all from c.in-Some.look.stamp) c.in-Here.is (c.in_ok-looked.ensures.next r.start r.shown r.shows store all r.represents_all) in
    let run = c.in_ok-run-in-Here.ensures.run r.start r.shown (c.in_ok-looked.ensures.same.shown r.start r.shown r.shows) store all r.represents_all in
    let taken = c.in_ok-take_rows-in-Here.ensures.taken from all ps c.in-Some.ensures.from t' now (subst (λ (s : ℕ). IsReached all s from (reached_as c.in-Here.reached)) at reached) (subst (λ (s : ℕ). IsRun all s from c.in_ok-run-in-Here.run') at run) in
    let goes = subst (LooksOn from) c.in-Here.is c.in_ok-looked.ensures.onward in
    let rose = rose_on (front_number c.args.cursor.now.front) (front_number c.take_rows.new.cursor.front) from c.in-Some.ensures.onward (c.in_ok-take_rows-in-Here.ensures.rose from c.in-Some.ensures.from goes) in
    rows_reported store.blocks all ps c.args.cursor.now c.take_rows.new.cursor c.report.new.cursor c.report.result (c.report.ensures.reported all ps taken) c.report.ensures.goes_on (c.take_rows.ensures.question ∙ same) rose

pub returns-in_ok-take_rows-in-Here-clause-gathered : goal.returns-in_ok-take_rows-in-Here-clause-gathered
returns-in_ok-take_rows-in-Here-clause-gathered g c = λ store all ps r t gathered.
    let from = c.in-Some.look.from in
    let same = c.next_look.ensures.question in
    let t' : Reports all ps c.next_look.new.self.question.moment = subst (λ (q : RowsQuestion). Reports all ps q.moment) (sym same) t in
    let now = c.next_look.ensures.gathered all ps t gathered in
    let at = c.in-Some.ensures.stamp ∙ ap (λ (q : RowsQuestion). last_stamp q.moment) (sym same) in
    let reached = subst (IsLooked store.blocks all from c.in-Some.look.stamp) c.in-Here.is (c.in_ok-looked.ensures.next r.start r.shown r.shows store all r.represents_all) in
    let run = c.in_ok-run-in-Here.ensures.run r.start r.shown (c.in_ok-looked.ensures.same.shown r.start r.shown r.shows) store all r.represents_all in
    let taken = c.in_ok-take_rows-in-Here.ensures.taken from all ps c.in-Some.ensures.from t' now (subst (λ (s : ℕ). IsReached all s from (reached_as c.in-Here.reached)) at reached) (subst (λ (s : ℕ). IsRun all s from c.in_ok-run-in-Here.run') at run) in
    c.report.ensures.gathered all ps taken
