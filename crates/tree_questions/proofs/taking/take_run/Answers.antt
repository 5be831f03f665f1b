use Rattle.std.proofs.Common.{◌≡◌, ◌∙◌, suc, List, [], ◌∷◌, length, refl, sym, subst, arith}
use Rattle.std.specs.Vec.Iter.{into_iter_items}
use Rattle.route_meaning.specs.declared.question.RowsQuestion.{RowsQuestion}
use Rattle.version_model.specs.Looks.{IsReached, NoneWithin, At as ReachAt}
use Rattle.version_model.specs.Ranges.{high_or}
use Rattle.version_model.specs.Versions.{found_at}
use Rattle.tsb_runs.specs.declared.live.LiveKey.{LiveKey}
use Rattle.tsb_runs.specs.Runs.{AreLive}
use Rattle.route_history.specs.Fronts.{front_number}
use Rattle.route_history.specs.Stamps.{last_stamp}
use Rattle.route_history.specs.Walks.{Reports}
use Rattle.tree_questions.proofs.Onward.{onward_on}
use Rattle.tree_questions.proofs.taking.take_run.Goals as goal

no_rows : (l : List LiveKey) → length l ≡ 0 → l ≡ []
no_rows [] none = refl
no_rows (row ∷ l) none = absurd (omega (arith, none))

pub returns-then-not-take_row-clause-taken : goal.returns-then-not-take_row-clause-taken
returns-then-not-take_row-clause-taken c = λ from all ps on t gathered run.
    let s = last_stamp c.args.cursor.now.question.moment in
    let row = c.in-Some.row in
    let same = c.loop-row.invariant.question in
    let so = c.loop-row.invariant.taken from all ps on t gathered run in
    let live = subst (AreLive all s so.0 (high_or c.args.run.high)) c.in-Some.ensures.steps.0 so.3 in
    let t' = subst (λ (q : RowsQuestion). Reports all ps q.moment) (sym same) t in
    c.take_row.ensures.taken so.0 all ps so.1 t' so.2 (subst (λ (q : RowsQuestion). IsReached all (last_stamp q.moment) so.0 (ReachAt row.key (found_at row.found.stamp row.found.value.items))) (sym same) (live.0, live.2, live.3))

pub loop-row-preserved : goal.loop-row-preserved
loop-row-preserved c = record {
  question = c.take_row.ensures.question ∙ c.loop-row.invariant.question;
  onward = onward_on (front_number c.args.cursor.now.front) (front_number c.loop-row.cursor.front) (front_number c.take_row.new.cursor.front) c.loop-row.invariant.onward c.take_row.ensures.onward;
  taken = λ from all ps on t gathered run.
      let s = last_stamp c.args.cursor.now.question.moment in
      let row = c.in-Some.row in
      let same = c.loop-row.invariant.question in
      let so = c.loop-row.invariant.taken from all ps on t gathered run in
      let live = subst (AreLive all s so.0 (high_or c.args.run.high)) c.in-Some.ensures.steps.0 so.3 in
      let t' = subst (λ (q : RowsQuestion). Reports all ps q.moment) (sym same) t in
      let taken = c.take_row.ensures.taken so.0 all ps so.1 t' so.2 (subst (λ (q : RowsQuestion). IsReached all (last_stamp q.moment) so.0 (ReachAt row.key (found_at row.found.stamp row.found.value.items))) (sym same) (live.0, live.2, live.3)) in
      (suc row.key, refl, taken, live.4);
}

pub returns-clause-taken : goal.returns-clause-taken
returns-clause-taken c = λ from all ps on t gathered run.
    let s = last_stamp c.args.cursor.now.question.moment in
    let high = high_or c.args.run.high in
    let same = c.loop-row.invariant.question in
    let so = c.loop-row.invariant.taken from all ps on t gathered run in
    let step = c.in-None.ensures.steps in
    let gone : into_iter_items c.loop-row.row-iterator ≡ [] = no_rows (into_iter_items c.loop-row.row-iterator) (omega (arith, c.loop-row.row-iterator.rest.ok, step.0)) in
    let none : NoneWithin all s so.0 high = subst (AreLive all s so.0 high) gone so.3 in
    let t' = subst (λ (q : RowsQuestion). Reports all ps q.moment) (sym same) t in
    c.take_end.ensures.taken so.0 all ps so.1 t' so.2 (subst (λ (q : RowsQuestion). NoneWithin all (last_stamp q.moment) so.0 high) (sym same) none)
