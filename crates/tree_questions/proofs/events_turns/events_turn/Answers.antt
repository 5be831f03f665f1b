use Rattle.std.proofs.Common.{rules, ℕ, sym, subst}
use Rattle.route_meaning.specs.declared.question.EventsQuestion.{EventsQuestion}
use Rattle.version_model.specs.Entries.{versions_of}
use Rattle.version_model.specs.Looks.{IsPart}
use Rattle.tsb_walk.specs.Looked.{IsParted}
use Rattle.route_history.specs.Spans.{ReportsEvents}
use Rattle.tree_questions.specs.inner.Reporting.{ReportsOn}
use Rattle.tree_questions.proofs.Turned.{events_reported, rose_at}
use Rattle.tree_questions.proofs.events_turns.events_turn.Goals as goal

pub returns-in_err-route-clause-blames : goal.returns-in_err-route-clause-blames
returns-in_err-route-clause-blames g c = λ store all r.
    let b = c.look.ensures.blames store all r in
    search (rules, b)

pub returns-in_err-session-clause-blames : goal.returns-in_err-session-clause-blames
returns-in_err-session-clause-blames g c = λ store all r.
    let b = c.look-2.ensures.blames store all (c.look.ensures.stays store all r) in
    search (rules, b)

pub returns-in_ok-take_parts-in-Here-Here-clause-turn : goal.returns-in_ok-take_parts-in-Here-Here-clause-turn
returns-in_ok-take_parts-in-Here-Here-clause-turn g c = λ store all ps r t reported.
    let from = c.in-Some.from in
    let h = c.in-Here-Here in
    let one = subst (IsParted store.blocks all c.prefix-route_key.result from) h.is-0 (c.in_ok-route.ensures.part store all r) in
    let two = subst (IsParted store.blocks all c.session-session_key.result from) h.is-1 (c.in_ok-session.ensures.part store all (c.look.ensures.stays store all r)) in
    let a = subst (λ (n : ℕ). IsPart all n from (versions_of h.route.entries.items) h.route.reported) c.prefix-route_key.ensures.key one in
    let b = subst (λ (n : ℕ). IsPart all n from (versions_of h.session.entries.items) h.session.reported) c.session-session_key.ensures.key two in
    let taken = c.in_ok-take_parts-in-Here-Here.ensures.taken from all ps c.in-Some.is t reported a b in
    let rose = rose_at c.args.cursor.now.at c.take_parts.new.self.at from c.in-Some.is (c.in_ok-take_parts-in-Here-Here.ensures.rose from c.in-Some.is (subst (ReportsOn from) h.is-0 c.in_ok-route.ensures.onward) (subst (ReportsOn from) h.is-1 c.in_ok-session.ensures.onward)) in
    events_reported store.blocks all ps c.args.cursor.now c.take_parts.new.self c.report.new.cursor c.report.result (c.report.ensures.reported all ps taken) c.report.ensures.goes_on c.take_parts.ensures.question rose

pub returns-in_ok-take_parts-in-Here-Here-clause-gathered : goal.returns-in_ok-take_parts-in-Here-Here-clause-gathered
returns-in_ok-take_parts-in-Here-Here-clause-gathered g c = λ store all ps r t reported.
    let from = c.in-Some.from in
    let h = c.in-Here-Here in
    let one = subst (IsParted store.blocks all c.prefix-route_key.result from) h.is-0 (c.in_ok-route.ensures.part store all r) in
    let two = subst (IsParted store.blocks all c.session-session_key.result from) h.is-1 (c.in_ok-session.ensures.part store all (c.look.ensures.stays store all r)) in
    let a = subst (λ (n : ℕ). IsPart all n from (versions_of h.route.entries.items) h.route.reported) c.prefix-route_key.ensures.key one in
    let b = subst (λ (n : ℕ). IsPart all n from (versions_of h.session.entries.items) h.session.reported) c.session-session_key.ensures.key two in
    let taken = c.in_ok-take_parts-in-Here-Here.ensures.taken from all ps c.in-Some.is t reported a b in
    c.report.ensures.gathered all ps (subst (λ (q : EventsQuestion). ReportsEvents all ps q) (sym c.take_parts.ensures.question) t) taken
