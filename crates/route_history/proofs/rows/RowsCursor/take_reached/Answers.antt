use Rattle.std.proofs.Common.{◌≡◌, ℕ, sym, subst, Some, Option}
use Rattle.version_model.specs.Looks.{IsReached}
use Rattle.tsb_walk.specs.Answers.{reached_as}
use Rattle.tsb_walk.specs.Looked.{GoesOnFrom}
use Rattle.route_history.specs.Fronts.{number_at, front_number}
use Rattle.route_history.specs.Stamps.{last_stamp}
use Rattle.route_history.specs.Walks.{Rose}
use Rattle.route_history.proofs.Leapt.{under_front, same_front}
use Rattle.route_history.proofs.rows.RowsCursor.take_reached.Goals as goal

pub returns-clause-taken : goal.returns-clause-taken
returns-clause-taken c = λ from all ps here t gathered reached.
    let q = c.args.self.now.question in
    let at : from ≡ number_at c.in-Some.front = same_front c.args.self.now.front c.in-Some.front from c.in-Some.is here in
    let under = under_front all ps c.args.self.now c.in-Some.front c.in-Some.is gathered in
    let reached' = subst (λ (n : ℕ). IsReached all (last_stamp q.moment) n (reached_as c.args.reached)) at reached in
    (c.in_ok-take.ensures.taken all ps t under reached').0

pub returns-clause-rose : goal.returns-clause-rose
returns-clause-rose c = λ from here on.
    let at : from ≡ number_at c.in-Some.front = same_front c.args.self.now.front c.in-Some.front from c.in-Some.is here in
    subst (λ (n : ℕ). Rose (Some n) (front_number c.take.new.self.front)) (sym at) (c.in_ok-take.ensures.rose (subst (λ (n : ℕ). GoesOnFrom n c.args.reached) at on))
