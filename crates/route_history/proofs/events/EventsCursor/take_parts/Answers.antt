use Rattle.std.proofs.Common.{◌≡◌, ℕ, sym, ◌∙◌, subst, Some, Option}
use Rattle.std.proofs.lemmas.Option.{same_Some}
use Rattle.route_model.specs.Keys.{key_number, session_number}
use Rattle.version_model.specs.Entries.{versions_of}
use Rattle.version_model.specs.Looks.{IsPart}
use Rattle.tsb_walk.specs.Looked.{ReportsFrom}
use Rattle.route_history.specs.Spans.{HasReported}
use Rattle.route_history.specs.Walks.{Rose}
use Rattle.route_history.proofs.events.EventsCursor.take_parts.Goals as goal

pub returns-clause-taken : goal.returns-clause-taken
returns-clause-taken c = λ at all ps here t reported a b.
    let q = c.args.self.now.question in
    let same : at ≡ c.in-Some.at = same_Some at c.in-Some.at (sym here ∙ c.in-Some.is) in
    let under = subst (λ (o : Option ℕ). HasReported all ps q o c.args.self.now.left c.args.self.now.reported.items c.args.self.now.more) c.in-Some.is reported in
    let a' = subst (λ (n : ℕ). IsPart all (key_number q.peer q.prefix) n (versions_of c.args.route.now.entries.items) c.args.route.now.reported) same a in
    let b' = subst (λ (n : ℕ). IsPart all (session_number q.peer) n (versions_of c.args.session.now.entries.items) c.args.session.now.reported) same b in
    (c.in_ok-take.ensures.reported all ps t under a' b').0

pub returns-clause-rose : goal.returns-clause-rose
returns-clause-rose c = λ at here a b.
    let same : at ≡ c.in-Some.at = same_Some at c.in-Some.at (sym here ∙ c.in-Some.is) in
    subst (λ (n : ℕ). Rose (Some n) c.take.new.self.at) (sym same) (c.in_ok-take.ensures.rose (subst (λ (n : ℕ). ReportsFrom n c.args.route.now) same a) (subst (λ (n : ℕ). ReportsFrom n c.args.session.now) same b))
