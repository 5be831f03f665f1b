use Rattle.std.proofs.Common.{ℕ, ◌<◌, Some, subst, sym, refl}
use Rattle.route_history.specs.Stamps.{last_stamp}
use Rattle.route_history.specs.Fronts.{number_at, front_number}
use Rattle.version_model.specs.Looks.{IsReached}
use Rattle.tsb_walk.specs.Answers.{reached_as}
use Rattle.tsb_walk.specs.declared.looks.Reached.{Reached as TheReached}
use Rattle.route_history.specs.Walks.{Gathered, Rose}
use Rattle.route_history.specs.declared.rows.RowsCursor.{RowsCursor}
use Rattle.route_history.proofs.Taking.{takes_end, takes_past, under_as}
use Rattle.route_history.proofs.rows.RowsCursor.take.Goals as goal

pub returns-in-End-clause-taken : goal.returns-in-End-clause-taken
returns-in-End-clause-taken c = λ all ps t u r.
    let q = c.args.self.now.question in
    (takes_end all ps q t (number_at c.args.front) c.args.self.now.ended c.args.self.now.rows.items c.args.self.now.more u (subst (λ (x : TheReached). IsReached all (last_stamp q.moment) (number_at c.args.front) (reached_as x)) c.in-End.is r), tt)

pub returns-in-Past-clause-taken : goal.returns-in-Past-clause-taken
returns-in-Past-clause-taken c = λ all ps t u r.
    let q = c.args.self.now.question in
    let n = subst (λ (x : TheReached). IsReached all (last_stamp q.moment) (number_at c.args.front) (reached_as x)) c.in-Past.is r in
    subst (λ (d : RowsCursor). Gathered all ps d × Rose (Some (number_at c.args.front)) (front_number d.front)) (sym c.go_on.ensures) (
      under_as all ps q _ _ _ _ _ _ _ c.from.ensures c.known-ended.ensures refl
          (takes_past all ps q t (number_at c.args.front) c.in-Past.high c.args.self.now.ended c.args.self.now.rows.items c.args.self.now.more u n.0 n.1),
      subst (λ (m : ℕ). number_at c.args.front < m) (sym c.from.ensures) n.0,
    )
