use Rattle.std.proofs.Common.{rules, ◌≡◌, ℕ, Option, Err, sym, subst}
use Rattle.once_store.specs.declared.error.BlockError.TheVariants.{Damaged}
use Rattle.version_model.specs.Looks.{IsPart}
use Rattle.version_model.specs.Entries.{versions_of}
use Rattle.route_history.specs.EventTurns.{IsKnownPart}
use Rattle.route_history.specs.Spans.{HasReported}
use Rattle.route_history.specs.Walks.{Rose}
use Rattle.route_history.proofs.Finishing.{reads_well, known_on}
use Rattle.route_history.proofs.Reporting.{rising_record}
use Rattle.route_history.proofs.events_turn.EventsErrand.finish.Goals as goal

pub returns-in_err-route-clause-reads : goal.returns-in_err-route-clause-reads
returns-in_err-route-clause-reads g c = λ all k.
    c.part_of.ensures.reads all (subst (λ (n : ℕ). IsKnownPart g.O.OnceDisk c.args.reader.now c.args.seen.now all n c.args.self.from c.args.self.route) (sym c.prefix-route_key.ensures.key) k.0)

pub returns-in_err-route-clause-never : goal.returns-in_err-route-clause-never
returns-in_err-route-clause-never g c = λ all k block e.
    let d : c.part_of.result ≡ Err (Damaged block) = search rules in
    c.part_of.ensures.never all (subst (λ (n : ℕ). IsKnownPart g.O.OnceDisk c.args.reader.now c.args.seen.now all n c.args.self.from c.args.self.route) (sym c.prefix-route_key.ensures.key) k.0) block d

pub returns-in_err-session-clause-reads : goal.returns-in_err-session-clause-reads
returns-in_err-session-clause-reads g c = λ all k.
    let d = g.O.OnceDisk in
    let first = subst (λ (n : ℕ). IsKnownPart d c.args.reader.now c.args.seen.now all n c.args.self.from c.args.self.route) (sym c.prefix-route_key.ensures.key) k.0 in
    let well = c.part_of.ensures.reads all first in
    let was = subst (λ (n : ℕ). IsKnownPart d c.args.reader.now c.args.seen.now all n c.args.self.from c.args.self.session) (sym c.session-session_key.ensures.key) k.1 in
    let same = c.part_of.ensures.same (reads_well d all c.prefix-route_key.result c.args.self.from c.args.reader.now c.args.seen.now c.args.self.route first).honest in
    let second = known_on d all c.session-session_key.result c.args.self.from c.args.reader.now c.part_of.new.reader c.args.seen.now c.part_of.new.seen c.args.self.session was well same c.part_of.ensures.disk in
    c.part_of-2.ensures.reads all second

pub returns-in_err-session-clause-never : goal.returns-in_err-session-clause-never
returns-in_err-session-clause-never g c = λ all k block e.
    let d = g.O.OnceDisk in
    let first = subst (λ (n : ℕ). IsKnownPart d c.args.reader.now c.args.seen.now all n c.args.self.from c.args.self.route) (sym c.prefix-route_key.ensures.key) k.0 in
    let well = c.part_of.ensures.reads all first in
    let was = subst (λ (n : ℕ). IsKnownPart d c.args.reader.now c.args.seen.now all n c.args.self.from c.args.self.session) (sym c.session-session_key.ensures.key) k.1 in
    let same = c.part_of.ensures.same (reads_well d all c.prefix-route_key.result c.args.self.from c.args.reader.now c.args.seen.now c.args.self.route first).honest in
    let second = known_on d all c.session-session_key.result c.args.self.from c.args.reader.now c.part_of.new.reader c.args.seen.now c.part_of.new.seen c.args.self.session was well same c.part_of.ensures.disk in
    let f : c.part_of-2.result ≡ Err (Damaged block) = search rules in
    c.part_of-2.ensures.never all second block f

pub returns-in_err-take-clause-reads : goal.returns-in_err-take-clause-reads
returns-in_err-take-clause-reads g c = λ all k.
    let d = g.O.OnceDisk in
    let first = subst (λ (n : ℕ). IsKnownPart d c.args.reader.now c.args.seen.now all n c.args.self.from c.args.self.route) (sym c.prefix-route_key.ensures.key) k.0 in
    let well = c.part_of.ensures.reads all first in
    let was = subst (λ (n : ℕ). IsKnownPart d c.args.reader.now c.args.seen.now all n c.args.self.from c.args.self.session) (sym c.session-session_key.ensures.key) k.1 in
    let same = c.part_of.ensures.same (reads_well d all c.prefix-route_key.result c.args.self.from c.args.reader.now c.args.seen.now c.args.self.route first).honest in
    let second = known_on d all c.session-session_key.result c.args.self.from c.args.reader.now c.part_of.new.reader c.args.seen.now c.part_of.new.seen c.args.self.session was well same c.part_of.ensures.disk in
    c.part_of-2.ensures.reads all second

pub returns-clause-reads : goal.returns-clause-reads
returns-clause-reads g c = λ all k.
    let d = g.O.OnceDisk in
    let first = subst (λ (n : ℕ). IsKnownPart d c.args.reader.now c.args.seen.now all n c.args.self.from c.args.self.route) (sym c.prefix-route_key.ensures.key) k.0 in
    let well = c.part_of.ensures.reads all first in
    let was = subst (λ (n : ℕ). IsKnownPart d c.args.reader.now c.args.seen.now all n c.args.self.from c.args.self.session) (sym c.session-session_key.ensures.key) k.1 in
    let same = c.part_of.ensures.same (reads_well d all c.prefix-route_key.result c.args.self.from c.args.reader.now c.args.seen.now c.args.self.route first).honest in
    let second = known_on d all c.session-session_key.result c.args.self.from c.args.reader.now c.part_of.new.reader c.args.seen.now c.part_of.new.seen c.args.self.session was well same c.part_of.ensures.disk in
    c.part_of-2.ensures.reads all second

pub returns-clause-finished : goal.returns-clause-finished
returns-clause-finished g c = λ all ps k t reported.
    let d = g.O.OnceDisk in
    let first = subst (λ (n : ℕ). IsKnownPart d c.args.reader.now c.args.seen.now all n c.args.self.from c.args.self.route) (sym c.prefix-route_key.ensures.key) k.0 in
    let well = c.part_of.ensures.reads all first in
    let was = subst (λ (n : ℕ). IsKnownPart d c.args.reader.now c.args.seen.now all n c.args.self.from c.args.self.session) (sym c.session-session_key.ensures.key) k.1 in
    let same = c.part_of.ensures.same (reads_well d all c.prefix-route_key.result c.args.self.from c.args.reader.now c.args.seen.now c.args.self.route first).honest in
    let second = known_on d all c.session-session_key.result c.args.self.from c.args.reader.now c.part_of.new.reader c.args.seen.now c.part_of.new.seen c.args.self.session was well same c.part_of.ensures.disk in
    let q = c.args.cursor.now.question in
    let rising = rising_record all t.rising in
    let a = subst (λ (n : ℕ). IsPart all n c.args.self.from (versions_of c.in_ok-route.route.entries.items) c.in_ok-route.route.reported) c.prefix-route_key.ensures.key (c.in_ok-route.ensures.part all rising first) in
    let b = subst (λ (n : ℕ). IsPart all n c.args.self.from (versions_of c.in_ok-session.session.entries.items) c.in_ok-session.session.reported) c.session-session_key.ensures.key (c.in_ok-session.ensures.part all rising second) in
    let under = subst (λ (o : Option ℕ). HasReported all ps q o c.args.cursor.now.left c.args.cursor.now.reported.items c.args.cursor.now.more) c.requires.fits.here reported in
    let r = c.in_ok-take.ensures.reported all ps t under a b in
    (r.0, subst (λ (o : Option ℕ). Rose o c.take.new.self.at) (sym c.requires.fits.here) r.1)

pub returns-in_err-route-clause-inside : goal.returns-in_err-route-clause-inside
returns-in_err-route-clause-inside g c = c.part_of.ensures.inside

pub returns-in_err-session-clause-inside : goal.returns-in_err-session-clause-inside
returns-in_err-session-clause-inside g c = λ k. c.part_of-2.ensures.inside (c.part_of.ensures.inside k)

pub returns-in_err-take-clause-inside : goal.returns-in_err-take-clause-inside
returns-in_err-take-clause-inside g c = λ k. c.part_of-2.ensures.inside (c.part_of.ensures.inside k)

pub returns-clause-inside : goal.returns-clause-inside
returns-clause-inside g c = λ k. c.part_of-2.ensures.inside (c.part_of.ensures.inside k)
