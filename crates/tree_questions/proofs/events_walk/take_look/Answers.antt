use Rattle.std.proofs.Common.{rules, ◌<◌, ℕ, sym, subst, Option}
use Rattle.version_model.specs.Entries.{versions_of}
use Rattle.version_model.specs.Looks.{IsPart}
use Rattle.tree_questions.specs.inner.Left.{stamps_left}
use Rattle.tree_questions.proofs.Going.{less_stamps}
use Rattle.tree_questions.proofs.events_walk.take_look.Goals as goal

pub returns-clause-reported : goal.returns-clause-reported
returns-clause-reported g c = λ all ps r t reported.
    let q = c.args.cursor.now.question in
    let r' = c.part_from.ensures.stays all r in
    let a = subst (λ (n : ℕ). IsPart all n c.in-Some.from (versions_of c.in_ok-route.route.entries.items) c.in_ok-route.route.reported) c.prefix-route_key.ensures.key (c.in_ok-route.ensures.part all r) in
    let b = subst (λ (n : ℕ). IsPart all n c.in-Some.from (versions_of c.in_ok-session.session.entries.items) c.in_ok-session.session.reported) c.session-session_key.ensures.key (c.in_ok-session.ensures.part all r') in
    c.in_ok-take_parts.ensures.taken c.in-Some.from all ps c.in-Some.is t reported a b

pub returns-clause-onward : goal.returns-clause-onward
returns-clause-onward g c = λ e.
    subst (λ (o : Option ℕ). stamps_left c.take_parts.new.self.at < stamps_left o) (sym c.in-Some.is)
    (less_stamps c.in-Some.from c.take_parts.new.self.at (c.in_ok-take_parts.ensures.rose c.in-Some.from c.in-Some.is c.in_ok-route.ensures.onward c.in_ok-session.ensures.onward) c.stamp_fits.ensures.fits)

pub returns-in_err-route-clause-blames : goal.returns-in_err-route-clause-blames
returns-in_err-route-clause-blames g c = λ all r.
    let b = c.part_from.ensures.blames all r in
    search (rules, b)

pub returns-in_err-session-clause-blames : goal.returns-in_err-session-clause-blames
returns-in_err-session-clause-blames g c = λ all r.
    let b = c.part_from-2.ensures.blames all (c.part_from.ensures.stays all r) in
    search (rules, b)
