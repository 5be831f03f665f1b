use Rattle.std.proofs.Common.{rules, ◌≡◌, ℕ, Err, subst}
use Rattle.once_store.specs.declared.error.BlockError.TheVariants.{Damaged}
use Rattle.version_model.specs.Looks.{IsReached}
use Rattle.tsb_walk.specs.Answers.{reached_as}
use Rattle.route_history.specs.Stamps.{last_stamp}
use Rattle.route_history.specs.Fronts.{number_at, front_number}
use Rattle.route_history.proofs.Leapt.{under_front, rose_from, same_front}
use Rattle.route_history.proofs.rows_turn.RowsErrand.finish.Goals as goal

pub returns-in_err-found-clause-never : goal.returns-in_err-found-clause-never
returns-in_err-found-clause-never g c = λ all represents_all block e.
    let d : c.hist_next.result ≡ Err (Damaged block) = search rules in
    c.hist_next.ensures.never all represents_all block d

pub returns-clause-finished : goal.returns-clause-finished
returns-clause-finished g c = λ all ps represents_all t gathered.
    let q = c.args.cursor.now.question in
    let at : c.args.self.from ≡ number_at c.in-Some.front = same_front c.args.cursor.now.front c.in-Some.front c.args.self.from c.in-Some.is c.requires.fits.here in
    let under = under_front all ps c.args.cursor.now c.in-Some.front c.in-Some.is gathered in
    let next = c.in_ok-found.ensures.next all represents_all in
    let reached : IsReached all (last_stamp q.moment) (number_at c.in-Some.front) (reached_as c.in_ok-found.found) = subst (λ (n : ℕ). IsReached all (last_stamp q.moment) n (reached_as c.in_ok-found.found)) at (subst (λ (s : ℕ). IsReached all s c.args.self.from (reached_as c.in_ok-found.found)) c.last_stamp-stamp.ensures next) in
    let taken = c.in_ok-take.ensures.taken all ps t under reached in
    (taken.0, rose_from c.args.cursor.now.front c.in-Some.front (front_number c.take.new.self.front) c.in-Some.is taken.1)

pub returns-in_err-found-clause-inside : goal.returns-in_err-found-clause-inside
returns-in_err-found-clause-inside g c = c.hist_next.ensures.inside

pub returns-in_err-take-clause-inside : goal.returns-in_err-take-clause-inside
returns-in_err-take-clause-inside g c = c.hist_next.ensures.inside

pub returns-clause-inside : goal.returns-clause-inside
returns-clause-inside g c = c.hist_next.ensures.inside
