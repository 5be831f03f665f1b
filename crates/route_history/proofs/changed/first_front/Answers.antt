use Rattle.std.proofs.Common.{◌≡◌, ℕ, Option, Some, None, [], false, refl, sym, subst}
use Rattle.route_history.specs.Changes.{BeginsAfter}
use Rattle.route_history.proofs.ChangedTaking.{begins, never_begins, leaps}
use Rattle.route_history.proofs.changed.first_front.Goals as goal

pub returns-in-Some : goal.returns-in-Some
returns-in-Some c = λ all ps t.
    let b : BeginsAfter c.args.question.now.after (Some c.in-Some.key) = subst (BeginsAfter c.args.question.now.after) c.in-Some.is c.key_after.ensures in
    leaps ps c.args.question.now all t c.in-Some.key c.leap.result [] false c.leap.ensures (begins ps c.args.question.now c.in-Some.key b)

pub returns-in-None : goal.returns-in-None
returns-in-None c = λ all ps t.
    let b : BeginsAfter c.args.question.now.after None = subst (BeginsAfter c.args.question.now.after) c.in-None.is c.key_after.ensures in
    never_begins ps c.args.question.now all t b
