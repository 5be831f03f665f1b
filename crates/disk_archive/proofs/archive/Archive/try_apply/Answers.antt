use Rattle.std.proofs.Common.{rules, ◌≡◌, inl, inr, refl, ◌∙◌, ap, arith, Ok, Err}
use Rattle.page_journal.specs.Journal.{disk_of, home_pages, needs_recovery}
use Rattle.page_tx.specs.Start.{Start}
use Rattle.disk_archive.specs.declared.apply_error.ApplyError.TheVariants as applies
use Rattle.page_journal.specs.declared.error.UseError.TheVariants as uses
use Rattle.disk_archive.specs.Archives.{once_state}
use Rattle.disk_archive.specs.Mirrors.{Mirrors}
use Rattle.disk_archive.specs.inner.Applications.{apply_of_use}
use Rattle.disk_archive.proofs.Failing.{apply_fault, apply_memory, reports_first, reports_none, reports_then, reports_as}
use Rattle.disk_archive.proofs.Faults.{done_not_reported, keeps_served, one_reported, reported_as}
use Rattle.disk_archive.proofs.Fronts.{nothing_is}
use Rattle.disk_archive.proofs.Outcomes.{on_each_err}
use Rattle.disk_archive.proofs.Calling.{Ready, start_of, grows_none, unwritten, written, kept}
use Rattle.disk_archive.proofs.Burning.{represents_more, refused_more, done_more}
use Rattle.disk_archive.proofs.Applied.{begins_moved}
use Rattle.disk_archive.proofs.Staying.{reported_fault}
use Rattle.disk_archive.proofs.Lacking.{lacks_at, lacks_commit, room_at}
use Rattle.disk_archive.proofs.Limited.{limits_as, limits_commit, limits_fresh, on_reported}
use Rattle.disk_archive.proofs.archive.Archive.try_apply.Goals as goal

pub plan_changes-requires-clause-lanes : goal.plan_changes-requires-clause-lanes
plan_changes-requires-clause-lanes g c = let n = c.args.self.now.numbers in let m = c.args.self.now.lanes in omega (arith, n, m)

pub plan_changes-requires-clause-few : goal.plan_changes-requires-clause-few
plan_changes-requires-clause-few g c = let n = c.args.self.now.numbers in let few = c.args.self.now.few in omega (arith, n, few)

pub returns-in_default-clause-ok : goal.returns-in_default-clause-ok
returns-in_default-clause-ok g c h k =
    let a = c.args.self.now in
    let sound = g.met.E.EraseDisk.sound in
    let start : Start = start_of a h k in
    let s0 = c.in_ok-begin_from.ensures.shown k.honest.0 k.pages k.maps in
    let homes0 = ap home_pages c.begin_from.ensures.same in
    let r : Ready a h k c.begin_from.new.tx k.pages = record { shows = s0; homes = homes0 } in
    (nothing_is a.sequencer h k.mirrors c.in_default.ensures.none, kept a _ h k k.pages r refl refl refl refl (s0.honest, k.honest.1) k.mirrors)

pub returns-in_default-clause-crash : goal.returns-in_default-clause-crash
returns-in_default-clause-crash g c h k =
    let a = c.args.self.now in
    let sound = g.met.E.EraseDisk.sound in
    let start : Start = start_of a h k in
    let s0 = c.in_ok-begin_from.ensures.shown k.honest.0 k.pages k.maps in
    let homes0 = ap home_pages c.begin_from.ensures.same in
    let r : Ready a h k c.begin_from.new.tx k.pages = record { shows = s0; homes = homes0 } in
    record { after = h; is = inl refl; crashes = unwritten a _ h h k k.pages sound r (grows_none (once_state a)) }

pub returns-in_err-head-clause-err : goal.returns-in_err-head-clause-err
returns-in_err-head-clause-err g c =
    on_each_err c.from_residual-in_err-head.result _ (λ h k.
    let a = c.args.self.now in
    let sound = g.met.E.EraseDisk.sound in
    let start : Start = start_of a h k in
    let s0 = c.in_ok-begin_from.ensures.shown k.honest.0 k.pages k.maps in
    let homes0 = ap home_pages c.begin_from.ensures.same in
    let kb = c.plan_changes.ensures.shelf in
    let grows = kb.grows k.honest.1 in
    let now = c.plan_changes.ensures.shows start k.pages s0 in
    let r : Ready a h k c.plan_changes.new.pages now.0 = record { shows = now.1; homes = c.plan_changes.ensures.homes ∙ homes0 } in
    inl (represents_more a _ h k kb.disk grows refl refl r.homes r.shows.noted (now.1.honest, kb.honest.0 k.honest.1) now.1.maps k.mirrors))

pub returns-in_err-head-clause-crash : goal.returns-in_err-head-clause-crash
returns-in_err-head-clause-crash g c h k =
    let a = c.args.self.now in
    let sound = g.met.E.EraseDisk.sound in
    let start : Start = start_of a h k in
    let s0 = c.in_ok-begin_from.ensures.shown k.honest.0 k.pages k.maps in
    let homes0 = ap home_pages c.begin_from.ensures.same in
    let kb = c.plan_changes.ensures.shelf in
    let grows = kb.grows k.honest.1 in
    let now = c.plan_changes.ensures.shows start k.pages s0 in
    let r : Ready a h k c.plan_changes.new.pages now.0 = record { shows = now.1; homes = c.plan_changes.ensures.homes ∙ homes0 } in
    record { after = h; is = inl refl; crashes = unwritten a _ h h k now.0 sound r grows }

pub returns-in_err-head-clause-sound : goal.returns-in_err-head-clause-sound
returns-in_err-head-clause-sound g c h k page bad =
    let a = c.args.self.now in
    let sound = g.met.E.EraseDisk.sound in
    let start : Start = start_of a h k in
    let s0 = c.in_ok-begin_from.ensures.shown k.honest.0 k.pages k.maps in
    let homes0 = ap home_pages c.begin_from.ensures.same in
    let kb = c.plan_changes.ensures.shelf in
    let grows = kb.grows k.honest.1 in
    c.plan_changes.ensures.sound start k.pages h s0 k.honest.1 k.head_represents k.mirrors page (search (rules, bad))

pub returns-in_err-commit-clause-err : goal.returns-in_err-commit-clause-err
returns-in_err-commit-clause-err g c =
    on_each_err c.from_residual-in_err-commit.result _ (λ h k.
    let a = c.args.self.now in
    let sound = g.met.E.EraseDisk.sound in
    let start : Start = start_of a h k in
    let s0 = c.in_ok-begin_from.ensures.shown k.honest.0 k.pages k.maps in
    let homes0 = ap home_pages c.begin_from.ensures.same in
    let kb = c.plan_changes.ensures.shelf in
    let grows = kb.grows k.honest.1 in
    let plan = c.in_ok-head.ensures.planned start k.pages h s0 k.honest.1 k.head_represents k.mirrors in
    let p = plan.planned in
    let r : Ready a h k c.plan_changes.new.pages p.pages = record { shows = p.shown; homes = c.plan_changes.ensures.homes ∙ homes0 } in
    let l = c.commit.ensures.crash start p.pages p.shown in
    refused_more a _ h plan.after k c.plan_changes.new.pages p.pages c.in_ok-head.field-0.head sound r c.commit.ensures.journal.homes c.commit.ensures.journal.note kb.disk grows refl refl
    (c.commit.ensures.journal.serves.honest.0 p.shown.honest, kb.honest.0 k.honest.1) k.mirrors (begins_moved h plan.after k.head_represents.right plan.moves) p.headed l (c.in_err-commit.ensures.err start p.pages p.shown))

pub returns-in_err-commit-clause-crash : goal.returns-in_err-commit-clause-crash
returns-in_err-commit-clause-crash g c h k =
    let a = c.args.self.now in
    let sound = g.met.E.EraseDisk.sound in
    let start : Start = start_of a h k in
    let s0 = c.in_ok-begin_from.ensures.shown k.honest.0 k.pages k.maps in
    let homes0 = ap home_pages c.begin_from.ensures.same in
    let kb = c.plan_changes.ensures.shelf in
    let grows = kb.grows k.honest.1 in
    let plan = c.in_ok-head.ensures.planned start k.pages h s0 k.honest.1 k.head_represents k.mirrors in
    let p = plan.planned in
    let r : Ready a h k c.plan_changes.new.pages p.pages = record { shows = p.shown; homes = c.plan_changes.ensures.homes ∙ homes0 } in
    let l = c.commit.ensures.crash start p.pages p.shown in
    record { after = plan.after; is = inr plan.moves; crashes = written a _ h plan.after k c.plan_changes.new.pages p.pages c.in_ok-head.field-0.head sound r grows p.headed l }

pub returns-clause-crash : goal.returns-clause-crash
returns-clause-crash g c h k =
    let a = c.args.self.now in
    let sound = g.met.E.EraseDisk.sound in
    let start : Start = start_of a h k in
    let s0 = c.in_ok-begin_from.ensures.shown k.honest.0 k.pages k.maps in
    let homes0 = ap home_pages c.begin_from.ensures.same in
    let kb = c.plan_changes.ensures.shelf in
    let grows = kb.grows k.honest.1 in
    let plan = c.in_ok-head.ensures.planned start k.pages h s0 k.honest.1 k.head_represents k.mirrors in
    let p = plan.planned in
    let r : Ready a h k c.plan_changes.new.pages p.pages = record { shows = p.shown; homes = c.plan_changes.ensures.homes ∙ homes0 } in
    let l = c.commit.ensures.crash start p.pages p.shown in
    record { after = plan.after; is = inr plan.moves; crashes = written a _ h plan.after k c.plan_changes.new.pages p.pages c.in_ok-head.field-0.head sound r grows p.headed l }

pub returns-clause-ok : goal.returns-clause-ok
returns-clause-ok g c h k =
    let a = c.args.self.now in
    let sound = g.met.E.EraseDisk.sound in
    let start : Start = start_of a h k in
    let s0 = c.in_ok-begin_from.ensures.shown k.honest.0 k.pages k.maps in
    let homes0 = ap home_pages c.begin_from.ensures.same in
    let kb = c.plan_changes.ensures.shelf in
    let grows = kb.grows k.honest.1 in
    let plan = c.in_ok-head.ensures.planned start k.pages h s0 k.honest.1 k.head_represents k.mirrors in
    let p = plan.planned in
    let r : Ready a h k c.plan_changes.new.pages p.pages = record { shows = p.shown; homes = c.plan_changes.ensures.homes ∙ homes0 } in
    let l = c.commit.ensures.crash start p.pages p.shown in
    let taken = c.take_passed.ensures.taken in
    let mirrors : Mirrors c.take_passed.new.self plan.after = record { marks = taken.marks ∙ plan.mirrors.marks; times = taken.times ∙ plan.mirrors.times } in
    (plan.after, plan.moves, done_more a _ plan.after p.pages kb.disk refl k.noted (c.commit.ensures.journal.homes ∙ r.homes) (c.commit.ensures.journal.note ∙ r.shows.noted) (c.commit.ensures.journal.serves.honest.0 p.shown.honest, kb.honest.0 k.honest.1) (c.in_ok-commit.ensures.ok start p.pages p.shown) mirrors p.headed)

-- ---- what must be opened again

pub returns-in_err-commit-clause-falls : goal.returns-in_err-commit-clause-falls
returns-in_err-commit-clause-falls g c up down =
    let was = c.plan_changes.ensures.down ∙ (ap needs_recovery c.begin_from.ensures.same ∙ up) in
    let fell = c.in_err-commit.ensures.falls was down in
    reported_fault c.from_residual-in_err-commit.result apply_of_use c.in_err-commit.field-0.0 c.from_residual-in_err-commit.ensures.1 (cc fell)

-- ---- what is too much

pub returns-in_err-head-clause-limits : goal.returns-in_err-head-clause-limits
returns-in_err-head-clause-limits g c =
    let a = c.args.self.now in
    let e = c.in_err-head.field-0.0 in
    on_reported c.from_residual-in_err-head.result e _ c.from_residual-in_err-head.ensures.1
    (limits_fresh _ a.head.fresh a.head.applied e (limits_as _ _ _ _ _ _ e (ap home_pages c.begin_from.ensures.same) c.in_ok-begin_from.ensures.next refl c.in_err-head.ensures.limits))

pub returns-in_err-commit-clause-limits : goal.returns-in_err-commit-clause-limits
returns-in_err-commit-clause-limits g c = on_reported c.from_residual-in_err-commit.result _ _ c.from_residual-in_err-commit.ensures.1 (limits_commit _ _ _ c.in_err-commit.field-0.0)

pub returns-in_err-head-clause-lacks : goal.returns-in_err-head-clause-lacks
returns-in_err-head-clause-lacks g c h k =
    let a = c.args.self.now in
    let e = c.in_err-head.field-0.0 in
    let s0 = c.in_ok-begin_from.ensures.shown k.honest.0 k.pages k.maps in
    on_reported c.from_residual-in_err-head.result e _ c.from_residual-in_err-head.ensures.1
    (lacks_at _ k.pages _ _ _ _ e (let homes = ap home_pages c.begin_from.ensures.same in let next = c.in_ok-begin_from.ensures.next in omega (arith, homes, next)) refl
    (c.in_err-head.ensures.lacks (start_of a h k) k.pages h s0 k.honest.1 k.head_represents k.mirrors))

pub returns-in_err-commit-clause-lacks : goal.returns-in_err-commit-clause-lacks
returns-in_err-commit-clause-lacks g c h k = on_reported c.from_residual-in_err-commit.result _ _ c.from_residual-in_err-commit.ensures.1 (lacks_commit _ k.pages _ _ c.in_err-commit.field-0.0)

pub returns-in_err-head-clause-high : goal.returns-in_err-head-clause-high
returns-in_err-head-clause-high g c honest pages maps reported = c.plan_changes.ensures.high _ pages (c.in_ok-begin_from.ensures.shown honest.0 pages maps) (search (rules, reported))

pub returns-clause-room : goal.returns-clause-room
returns-clause-room g c reported h k =
    let a = c.args.self.now in
    let s0 = c.in_ok-begin_from.ensures.shown k.honest.0 k.pages k.maps in
    room_at _ k.pages _ _ _ _ _ _ _ (let homes = ap home_pages c.begin_from.ensures.same in let next = c.in_ok-begin_from.ensures.next in omega (arith, homes, next)) refl refl
    (c.in_ok-head.ensures.room (start_of a h k) k.pages h s0 k.honest.1 k.head_represents k.mirrors)

-- ---- how often both disks failed

pub returns-in_err-begin_from-clause-failed : goal.returns-in_err-begin_from-clause-failed
returns-in_err-begin_from-clause-failed g c =
    reports_then _ _ _ _ _ _ _ (ap (λ j. g.E.EraseDisk.fault_count (disk_of j)) c.begin_from.ensures.same, refl) (reports_none _ _ _ (λ reported. search (rules, reported)))

pub returns-in_default-clause-failed : goal.returns-in_default-clause-failed
returns-in_default-clause-failed g c =
    reports_then _ _ _ _ _ _ _ (ap (λ j. g.E.EraseDisk.fault_count (disk_of j)) c.begin_from.ensures.same, refl) (reports_none _ _ _ (λ reported. absurd cc))

pub returns-in_err-head-clause-failed : goal.returns-in_err-head-clause-failed
returns-in_err-head-clause-failed g c =
    let e = c.in_err-head.field-0.0 in
    let r : c.plan_changes.result ≡ Err e = search rules in
    let d : c.from_residual-in_err-head.result ≡ Err e = search rules in
    reports_then _ _ _ _ _ _ _ (ap (λ j. g.E.EraseDisk.fault_count (disk_of j)) c.begin_from.ensures.same, refl)
    (reports_as _ _ _ _ _ _ (λ reported. r ∙ ap Err (one_reported c.from_residual-in_err-head.result e applies.Fault d reported)) (λ failed. d ∙ ap Err (one_reported c.plan_changes.result e applies.Fault r failed)) c.plan_changes.ensures.failed)

pub returns-in_err-commit-clause-failed : goal.returns-in_err-commit-clause-failed
returns-in_err-commit-clause-failed g c =
    let e = c.in_err-commit.field-0.0 in
    let r : c.commit.result ≡ Err e = search rules in
    let d : c.from_residual-in_err-commit.result ≡ Err (apply_of_use e) = search rules in
    let plan : c.plan_changes.result ≡ Ok c.in_ok-head.field-0 = search rules in
    let first = c.plan_changes.ensures.failed.quiet (done_not_reported c.plan_changes.result c.in_ok-head.field-0 applies.Fault plan) in
    reports_then _ _ _ _ _ _ _ (first.0 ∙ ap (λ j. g.E.EraseDisk.fault_count (disk_of j)) c.begin_from.ensures.same, first.1)
    (reports_as _ _ _ _ _ _
    (λ reported. r ∙ ap Err (apply_fault e (one_reported c.from_residual-in_err-commit.result (apply_of_use e) applies.Fault d reported)))
    (λ failed. d ∙ ap Err (ap apply_of_use (one_reported c.commit.result e uses.Fault r failed)))
    (reports_first _ _ _ _ _ _ (keeps_served g.E.EraseDisk _ _ _ c.commit.ensures.journal.serves)))

pub returns-clause-failed : goal.returns-clause-failed
returns-clause-failed g c =
    let plan : c.plan_changes.result ≡ Ok c.in_ok-head.field-0 = search rules in
    let first = c.plan_changes.ensures.failed.quiet (done_not_reported c.plan_changes.result c.in_ok-head.field-0 applies.Fault plan) in
    let done : c.commit.result ≡ Ok tt = search rules in
    reports_then _ _ _ _ _ _ _ (first.0 ∙ ap (λ j. g.E.EraseDisk.fault_count (disk_of j)) c.begin_from.ensures.same, first.1)
    (reports_as _ _ _ _ _ _ (λ reported. absurd cc) (λ failed. absurd (done_not_reported c.commit.result tt uses.Fault done failed))
    (reports_first _ _ _ _ _ _ (keeps_served g.E.EraseDisk _ _ _ c.commit.ensures.journal.serves)))

-- ---- where memory is refused nothing was written

pub returns-in_err-head-clause-memory : goal.returns-in_err-head-clause-memory
returns-in_err-head-clause-memory g c h k reported =
    let s0 = c.in_ok-begin_from.ensures.shown k.honest.0 k.pages k.maps in
    let now = c.plan_changes.ensures.shows (start_of c.args.self.now h k) k.pages s0 in
    now.1.clocked

pub returns-in_err-commit-clause-memory : goal.returns-in_err-commit-clause-memory
returns-in_err-commit-clause-memory g c h k reported =
    let r = c.from_residual-in_err-commit.result in
    absurd (apply_memory c.in_err-commit.field-0.0 (reported_as r _ applies.OutOfMemory c.from_residual-in_err-commit.ensures.1 reported))
