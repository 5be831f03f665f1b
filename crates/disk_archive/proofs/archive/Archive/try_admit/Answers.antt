use Rattle.std.proofs.Common.{rules, ◌≡◌, ◌<◌, ◌≤◌, ◌-◌, ◌*◌, inl, inr, List, [], length, refl, sym, ◌∙◌, ap, subst, arith, slice_get, Err}
use Rattle.std.specs.Prelude.{sum_by}
use Rattle.page_journal.specs.Journal.{disk_of, home_pages, needs_recovery}
use Rattle.page_tx.specs.Start.{Start}
use Rattle.route_model.specs.Admission.{Admitted}
use Rattle.route_meaning.specs.History.{Intake}
use Rattle.sequencer.specs.Taking.{TakesIn}
use Rattle.interleaving_core.specs.Steps.{given}
use Rattle.interleaving_core.proofs.api.Right.{begins_given, right_given}
use Rattle.intake.specs.Ring.{entry_octets, octets_for}
use Rattle.disk_archive.specs.Archives.{once_state, site_of}
use Rattle.disk_archive.proofs.BatchSizes.{octets_timely}
use Rattle.disk_archive.proofs.Mirroring.{intake_at, mark_at, mark_there, mirror_same, mirror_given}
use Rattle.disk_archive.proofs.Outcomes.{on_each_err}
use Rattle.sequencer.proofs.api.Setting.{one_there}
use Rattle.disk_archive.specs.declared.error.AdmitError.TheVariants as admits
use Rattle.disk_archive.proofs.Plans.{lane_at}
use Rattle.disk_archive.proofs.Limiting.{not_full, no_counter, counter_reported, not_crowded, no_crowd, crowd_reported, plan_later, commit_later, memory_later, as_reported, reported_err}
use Rattle.disk_archive.proofs.Replies.{reply_is}
use Rattle.disk_archive.proofs.Nothing.{represents_none, is_nil, not_nil, reply_none}
use Rattle.disk_archive.proofs.Limited.{on_reported}
use Rattle.disk_archive.proofs.Calling.{Ready, start_of, grows_none, unwritten, written, kept, refused, done}
use Rattle.disk_archive.specs.inner.Committing.{admit_of_use}
use Rattle.buffer_pool.specs.Pool.{journal_of}
use Rattle.page_tx.specs.Tx.{pool_of}
use Rattle.disk_archive.proofs.Faults.{admit_fault, admit_memory, keeps_same, keeps_served, keeps_then, keeps_reported, not_taken, reported_as, reported_of}
use Rattle.disk_archive.proofs.Staying.{reported_fault}
use Rattle.disk_archive.proofs.archive.Archive.try_admit.Goals as goal

pub plan_batch-requires-clause-octets : goal.plan_batch-requires-clause-octets
plan_batch-requires-clause-octets g c =
    let a = c.args.self.now in
    let few = a.numbers in
    let low = c.in_ok-may_take.ensures.collector in
    let m = mark_at a.sequencer c.args.collector (omega (arith, few, low)) in
    let e = (c.in_ok-kept.ensures.kept m.0 m.1).items in
    let part = octets_timely m.0 [] c.args.batch.now in
    let all = c.in_ok-may_take.ensures.octets in
    subst (λ (l : List Admitted). sum_by entry_octets l ≤ 262144) (sym e) (omega (arith, part, all))

pub plan_batch-requires-clause-free : goal.plan_batch-requires-clause-free
plan_batch-requires-clause-free g c lane at =
    let a = c.args.self.now in
    let few = a.numbers in
    let low = c.in_ok-may_take.ensures.collector in
    let m = mark_at a.sequencer c.args.collector (omega (arith, few, low)) in
    let e = (c.in_ok-kept.ensures.kept m.0 m.1).items in
    let room = c.in_ok-may_take.ensures.room lane m.0 at m.1 in
    subst (λ (l : List Admitted). octets_for l ≤ 16384 * a.settings.ring - lane.used) (sym e) room

pub returns-in_err-may_take-clause-err : goal.returns-in_err-may_take-clause-err
returns-in_err-may_take-clause-err g c = on_each_err c.from_residual-in_err-may_take.result _ (λ h k.
    let a = c.args.self.now in
    let w = given h c.args.collector c.args.batch.now in
    let sound = g.met.E.EraseDisk.sound in
    let start : Start = start_of a h k in
    let s0 = c.in_ok-begin.ensures.shown k.honest.0 k.pages k.maps in
    let homes0 = ap home_pages c.begin.ensures.same in
    let r : Ready a h k c.begin.new.tx k.pages = record { shows = s0; homes = homes0 } in
    inl (kept a _ h k k.pages r refl refl refl refl (s0.honest, k.honest.1) k.mirrors))

pub returns-in_err-may_take-clause-crash : goal.returns-in_err-may_take-clause-crash
returns-in_err-may_take-clause-crash g c h k =
    let a = c.args.self.now in
    let w = given h c.args.collector c.args.batch.now in
    let sound = g.met.E.EraseDisk.sound in
    let start : Start = start_of a h k in
    let s0 = c.in_ok-begin.ensures.shown k.honest.0 k.pages k.maps in
    let homes0 = ap home_pages c.begin.ensures.same in
    let r : Ready a h k c.begin.new.tx k.pages = record { shows = s0; homes = homes0 } in
    unwritten a _ h w k k.pages sound r (grows_none (once_state a))

-- ---- the batch has no record

pub returns-in_err-begin-clause-empty : goal.returns-in_err-begin-clause-empty
returns-in_err-begin-clause-empty g c none = (
  record { journal = c.begin.ensures.same; disk = refl; state = refl; settings = refl; head = refl; lanes = refl },
  on_reported c.from_residual.result _ _ c.from_residual.ensures.1 (inl refl),
)

pub returns-in_err-may_take-clause-empty : goal.returns-in_err-may_take-clause-empty
returns-in_err-may_take-clause-empty g c none = (
  record { journal = c.begin.ensures.same; disk = refl; state = refl; settings = refl; head = refl; lanes = refl },
  on_reported c.from_residual-in_err-may_take.result _ _ c.from_residual-in_err-may_take.ensures.1 (inr (c.in_err-may_take.ensures.empty none)),
)

pub returns-then-is_empty-clause-empty : goal.returns-then-is_empty-clause-empty
returns-then-is_empty-clause-empty g c none = (record { journal = c.begin.ensures.same; disk = refl; state = refl; settings = refl; head = refl; lanes = refl }, tt)

pub returns-in_err-kept-clause-empty : goal.returns-in_err-kept-clause-empty
returns-in_err-kept-clause-empty g c none = absurd (not_nil c.args.batch.now _ c.is_empty.ensures c.if-is_empty.false none)

pub returns-in_err-next-clause-empty : goal.returns-in_err-next-clause-empty
returns-in_err-next-clause-empty g c none = absurd (not_nil c.args.batch.now _ c.is_empty.ensures c.if-is_empty.false none)

pub returns-in_err-commit-clause-empty : goal.returns-in_err-commit-clause-empty
returns-in_err-commit-clause-empty g c none = absurd (not_nil c.args.batch.now _ c.is_empty.ensures c.if-is_empty.false none)

pub returns-clause-empty : goal.returns-clause-empty
returns-clause-empty g c none = absurd (not_nil c.args.batch.now _ c.is_empty.ensures c.if-is_empty.false none)

pub returns-then-is_empty-clause-ok : goal.returns-then-is_empty-clause-ok
returns-then-is_empty-clause-ok g c h k =
    let a = c.args.self.now in
    let s0 = c.in_ok-begin.ensures.shown k.honest.0 k.pages k.maps in
    let homes0 = ap home_pages c.begin.ensures.same in
    let r : Ready a h k c.begin.new.tx k.pages = record { shows = s0; homes = homes0 } in
    represents_none _ h c.args.collector c.args.batch.now (is_nil c.args.batch.now _ c.is_empty.ensures c.if-is_empty.true)
    (kept a _ h k k.pages r refl refl refl refl (s0.honest, k.honest.1) k.mirrors)

pub returns-then-is_empty-clause-crash : goal.returns-then-is_empty-clause-crash
returns-then-is_empty-clause-crash g c h k =
    let a = c.args.self.now in
    let w = given h c.args.collector c.args.batch.now in
    let sound = g.met.E.EraseDisk.sound in
    let s0 = c.in_ok-begin.ensures.shown k.honest.0 k.pages k.maps in
    let homes0 = ap home_pages c.begin.ensures.same in
    let r : Ready a h k c.begin.new.tx k.pages = record { shows = s0; homes = homes0 } in
    unwritten a _ h w k k.pages sound r (grows_none (once_state a))

pub returns-then-is_empty-clause-reply : goal.returns-then-is_empty-clause-reply
returns-then-is_empty-clause-reply g c h k i here =
    let own = k.head_represents.lanes c.args.collector c.lane_of-before.result i c.lane_of-before.ensures.lane here in
    reply_none i c.args.collector c.args.batch.now _ (is_nil c.args.batch.now _ c.is_empty.ensures c.if-is_empty.true) (c.reply_to_none.ensures.reply i own.offered own.admitted)

pub returns-then-is_empty-clause-counter_full : goal.returns-then-is_empty-clause-counter_full
returns-then-is_empty-clause-counter_full g c h k =
    let a = c.args.self.now in
    (λ e. cc, λ full. absurd (not_full (site_of a).blocks a.settings (once_state a) a.head k.pages h c.args.collector (length c.args.batch.now) k.head_represents c.in_ok-may_take.ensures.collector c.in_ok-may_take.ensures.counts full.1))

pub returns-then-is_empty-clause-intake_full : goal.returns-then-is_empty-clause-intake_full
returns-then-is_empty-clause-intake_full g c h k =
    let a = c.args.self.now in
    (λ e. cc, λ full. absurd (not_crowded (site_of a).blocks a.settings (once_state a) a.head a.sequencer k.pages h c.args.collector c.args.batch.now k.head_represents k.mirrors c.in_ok-may_take.ensures.collector c.in_ok-may_take.ensures.room full.2))

pub returns-then-is_empty-clause-device : goal.returns-then-is_empty-clause-device
returns-then-is_empty-clause-device g c = keeps_reported _ _ _ _ ⊥ _ (λ reported. cc) (λ f. absurd f) (keeps_same g.E.EraseDisk (journal_of (pool_of c.args.self.now.tx)) (journal_of (pool_of c.begin.new.tx)) c.begin.ensures.same)

-- ---- memory is refused for what is late

pub returns-in_err-kept-clause-err : goal.returns-in_err-kept-clause-err
returns-in_err-kept-clause-err g c = on_each_err c.from_residual-in_err-kept.result _ (λ h k.
    let a = c.args.self.now in
    let w = given h c.args.collector c.args.batch.now in
    let sound = g.met.E.EraseDisk.sound in
    let start : Start = start_of a h k in
    let s0 = c.in_ok-begin.ensures.shown k.honest.0 k.pages k.maps in
    let homes0 = ap home_pages c.begin.ensures.same in
    let r : Ready a h k c.begin.new.tx k.pages = record { shows = s0; homes = homes0 } in
    inl (kept a _ h k k.pages r refl refl refl refl (s0.honest, k.honest.1) (mirror_same a.sequencer c.part.new.sequencer h c.part.ensures.same k.mirrors)))

pub returns-in_err-kept-clause-crash : goal.returns-in_err-kept-clause-crash
returns-in_err-kept-clause-crash g c h k =
    let a = c.args.self.now in
    let w = given h c.args.collector c.args.batch.now in
    let sound = g.met.E.EraseDisk.sound in
    let start : Start = start_of a h k in
    let s0 = c.in_ok-begin.ensures.shown k.honest.0 k.pages k.maps in
    let homes0 = ap home_pages c.begin.ensures.same in
    let r : Ready a h k c.begin.new.tx k.pages = record { shows = s0; homes = homes0 } in
    unwritten a _ h w k k.pages sound r (grows_none (once_state a))

pub returns-in_err-next-clause-err : goal.returns-in_err-next-clause-err
returns-in_err-next-clause-err g c = on_each_err c.from_residual-in_err-next.result _ (λ h k.
    let a = c.args.self.now in
    let w = given h c.args.collector c.args.batch.now in
    let sound = g.met.E.EraseDisk.sound in
    let start : Start = start_of a h k in
    let s0 = c.in_ok-begin.ensures.shown k.honest.0 k.pages k.maps in
    let homes0 = ap home_pages c.begin.ensures.same in
    let now = c.plan_batch.ensures.shown (site_of a).blocks (once_state a) start k.pages h s0 k.head_represents in
    let r : Ready a h k c.plan_batch.new.pages now.0 = record { shows = now.1; homes = c.plan_batch.ensures.homes ∙ homes0 } in
    inl (kept a _ h k now.0 r refl refl refl refl (now.1.honest, k.honest.1) (mirror_same a.sequencer c.part.new.sequencer h c.part.ensures.same k.mirrors)))

pub returns-in_err-next-clause-crash : goal.returns-in_err-next-clause-crash
returns-in_err-next-clause-crash g c h k =
    let a = c.args.self.now in
    let w = given h c.args.collector c.args.batch.now in
    let sound = g.met.E.EraseDisk.sound in
    let start : Start = start_of a h k in
    let s0 = c.in_ok-begin.ensures.shown k.honest.0 k.pages k.maps in
    let homes0 = ap home_pages c.begin.ensures.same in
    let now = c.plan_batch.ensures.shown (site_of a).blocks (once_state a) start k.pages h s0 k.head_represents in
    let r : Ready a h k c.plan_batch.new.pages now.0 = record { shows = now.1; homes = c.plan_batch.ensures.homes ∙ homes0 } in
    unwritten a _ h w k now.0 sound r (grows_none (once_state a))

pub returns-in_err-commit-clause-err : goal.returns-in_err-commit-clause-err
returns-in_err-commit-clause-err g c = on_each_err c.from_residual-in_err-commit.result _ (λ h k.
    let a = c.args.self.now in
    let w = given h c.args.collector c.args.batch.now in
    let sound = g.met.E.EraseDisk.sound in
    let start : Start = start_of a h k in
    let s0 = c.in_ok-begin.ensures.shown k.honest.0 k.pages k.maps in
    let homes0 = ap home_pages c.begin.ensures.same in
    let number = k.head_represents.number in
    let collector = c.in_ok-may_take.ensures.collector in
    let low : c.args.collector < length h.intakes = omega (arith, number, collector) in
    let it = intake_at c.args.collector h.intakes low in
    let i : Intake = it.0 in
    let at = mark_there a.sequencer h c.args.collector i k.mirrors it.1 in
    let plan = c.in_ok-next.ensures.planned (site_of a).blocks (once_state a) start k.pages h i c.args.batch.now s0 k.head_represents it.1 c.in_ok-may_take.ensures.valid (c.in_ok-kept.ensures.kept i.mark at) in
    let r : Ready a h k c.plan_batch.new.pages plan.pages = record { shows = plan.shown; homes = c.plan_batch.ensures.homes ∙ homes0 } in
    let l = c.commit.ensures.crash start plan.pages plan.shown in
    refused a _ h w k c.plan_batch.new.pages plan.pages c.in_ok-next.next sound r c.commit.ensures.journal.homes c.commit.ensures.journal.note refl refl refl refl
    (c.commit.ensures.journal.serves.honest.0 plan.shown.honest, k.honest.1) (mirror_same a.sequencer c.part.new.sequencer h c.part.ensures.same k.mirrors)
    (begins_given h c.args.collector c.args.batch.now) plan.headed l (c.in_err-commit.ensures.err start plan.pages plan.shown))

pub returns-in_err-commit-clause-crash : goal.returns-in_err-commit-clause-crash
returns-in_err-commit-clause-crash g c h k =
    let a = c.args.self.now in
    let w = given h c.args.collector c.args.batch.now in
    let sound = g.met.E.EraseDisk.sound in
    let start : Start = start_of a h k in
    let s0 = c.in_ok-begin.ensures.shown k.honest.0 k.pages k.maps in
    let homes0 = ap home_pages c.begin.ensures.same in
    let number = k.head_represents.number in
    let collector = c.in_ok-may_take.ensures.collector in
    let low : c.args.collector < length h.intakes = omega (arith, number, collector) in
    let it = intake_at c.args.collector h.intakes low in
    let i : Intake = it.0 in
    let at = mark_there a.sequencer h c.args.collector i k.mirrors it.1 in
    let plan = c.in_ok-next.ensures.planned (site_of a).blocks (once_state a) start k.pages h i c.args.batch.now s0 k.head_represents it.1 c.in_ok-may_take.ensures.valid (c.in_ok-kept.ensures.kept i.mark at) in
    let r : Ready a h k c.plan_batch.new.pages plan.pages = record { shows = plan.shown; homes = c.plan_batch.ensures.homes ∙ homes0 } in
    let l = c.commit.ensures.crash start plan.pages plan.shown in
    written a _ h w k c.plan_batch.new.pages plan.pages c.in_ok-next.next sound r (grows_none (once_state a)) plan.headed l

pub returns-clause-crash : goal.returns-clause-crash
returns-clause-crash g c h k =
    let a = c.args.self.now in
    let w = given h c.args.collector c.args.batch.now in
    let sound = g.met.E.EraseDisk.sound in
    let start : Start = start_of a h k in
    let s0 = c.in_ok-begin.ensures.shown k.honest.0 k.pages k.maps in
    let homes0 = ap home_pages c.begin.ensures.same in
    let number = k.head_represents.number in
    let collector = c.in_ok-may_take.ensures.collector in
    let low : c.args.collector < length h.intakes = omega (arith, number, collector) in
    let it = intake_at c.args.collector h.intakes low in
    let i : Intake = it.0 in
    let at = mark_there a.sequencer h c.args.collector i k.mirrors it.1 in
    let plan = c.in_ok-next.ensures.planned (site_of a).blocks (once_state a) start k.pages h i c.args.batch.now s0 k.head_represents it.1 c.in_ok-may_take.ensures.valid (c.in_ok-kept.ensures.kept i.mark at) in
    let r : Ready a h k c.plan_batch.new.pages plan.pages = record { shows = plan.shown; homes = c.plan_batch.ensures.homes ∙ homes0 } in
    let l = c.commit.ensures.crash start plan.pages plan.shown in
    written a _ h w k c.plan_batch.new.pages plan.pages c.in_ok-next.next sound r (grows_none (once_state a)) plan.headed l

pub returns-clause-ok : goal.returns-clause-ok
returns-clause-ok g c h k =
    let a = c.args.self.now in
    let w = given h c.args.collector c.args.batch.now in
    let sound = g.met.E.EraseDisk.sound in
    let start : Start = start_of a h k in
    let s0 = c.in_ok-begin.ensures.shown k.honest.0 k.pages k.maps in
    let homes0 = ap home_pages c.begin.ensures.same in
    let number = k.head_represents.number in
    let collector = c.in_ok-may_take.ensures.collector in
    let low : c.args.collector < length h.intakes = omega (arith, number, collector) in
    let it = intake_at c.args.collector h.intakes low in
    let i : Intake = it.0 in
    let at = mark_there a.sequencer h c.args.collector i k.mirrors it.1 in
    let plan = c.in_ok-next.ensures.planned (site_of a).blocks (once_state a) start k.pages h i c.args.batch.now s0 k.head_represents it.1 c.in_ok-may_take.ensures.valid (c.in_ok-kept.ensures.kept i.mark at) in
    let r : Ready a h k c.plan_batch.new.pages plan.pages = record { shows = plan.shown; homes = c.plan_batch.ensures.homes ∙ homes0 } in
    let l = c.commit.ensures.crash start plan.pages plan.shown in
    let same : c.from.result ≡ c.args.collector = search rules in
    let taken = subst (λ n. TakesIn c.part.new.sequencer n c.in_ok-kept.field-0.sieved c.take_in.new.self) same c.take_in.ensures.taken in
    let mirrors = mirror_given a.sequencer c.part.new.sequencer c.take_in.new.self h c.args.collector c.args.batch.now i c.in_ok-kept.field-0.sieved k.head_represents.right (right_given h c.args.collector c.args.batch.now c.in_ok-may_take.ensures.valid k.head_represents.right) it.1 k.mirrors
    c.part.ensures.same taken (c.in_ok-kept.ensures.sieved i.mark at) in
    done a _ w plan.pages refl refl refl k.noted (c.commit.ensures.journal.homes ∙ r.homes) (c.commit.ensures.journal.note ∙ r.shows.noted) (c.commit.ensures.journal.serves.honest.0 plan.shown.honest, k.honest.1) (c.in_ok-commit.ensures.ok start plan.pages plan.shown) mirrors plan.headed

pub returns-clause-reply : goal.returns-clause-reply
returns-clause-reply g c h k i here =
    let a = c.args.self.now in
    let at = mark_there a.sequencer h c.args.collector i k.mirrors here in
    let own = k.head_represents.lanes c.args.collector c.lane_of-before.result i c.lane_of-before.ensures.lane here in
    let after = one_there (slice_get c.in_ok-next.next.lanes c.args.collector) c.lane_of-after.result _ c.lane_of-after.ensures.lane (c.in_ok-next.ensures.lane c.lane_of-before.result c.lane_of-before.ensures.lane) in
    reply_is c.lane_of-before.result c.lane_of-after.result i c.args.collector c.args.batch.now _ c.in_ok-kept.field-0.sieved own.offered own.admitted (c.in_ok-kept.ensures.kept i.mark at) after (c.in_ok-kept.ensures.sieved i.mark at)

-- ---- what is returned: a batch is too much

pub returns-in_err-may_take-clause-counter_full : goal.returns-in_err-may_take-clause-counter_full
returns-in_err-may_take-clause-counter_full g c h k =
    let a = c.args.self.now in
    let r = c.from_residual-in_err-may_take.result in
    counter_reported (site_of a).blocks a.settings (once_state a) a.head k.pages h c.args.collector (sum_by entry_octets c.args.batch.now) (length c.args.batch.now) r c.in_err-may_take.field-0.0 k.head_represents
    (reported_err r _ c.from_residual-in_err-may_take.ensures.1)
    (λ ge. let q = c.in_err-may_take.ensures.no_collector.1 ge in cc)
    (λ lane at. let q = c.in_err-may_take.ensures.counter_full lane at in (λ e. q.0 (ap (λ x. Err x) e), λ is. let x = q.1 is in cc))

pub returns-in_err-may_take-clause-intake_full : goal.returns-in_err-may_take-clause-intake_full
returns-in_err-may_take-clause-intake_full g c h k =
    let a = c.args.self.now in
    let r = c.from_residual-in_err-may_take.result in
    crowd_reported (site_of a).blocks a.settings (once_state a) a.head a.sequencer k.pages h c.args.collector (sum_by entry_octets c.args.batch.now) c.args.batch.now r c.in_err-may_take.field-0.0 k.head_represents k.mirrors
    (reported_err r _ c.from_residual-in_err-may_take.ensures.1)
    (λ ge. let q = c.in_err-may_take.ensures.no_collector.1 ge in cc)
    (λ lane mark at there. let q = c.in_err-may_take.ensures.intake_full lane mark at there in (λ e. q.0 (ap (λ x. Err x) e), λ is. let x = q.1 is in cc))

-- ---- memory is refused

pub returns-in_err-kept-clause-intake_full : goal.returns-in_err-kept-clause-intake_full
returns-in_err-kept-clause-intake_full g c h k =
    let a = c.args.self.now in
    let r = c.from_residual-in_err-kept.result in
    no_crowd (sum_by entry_octets c.args.batch.now) a.settings h c.args.collector (length c.args.batch.now) c.args.batch.now r admits.OutOfMemory
    (reported_err r _ c.from_residual-in_err-kept.ensures.1) memory_later
    (not_crowded (site_of a).blocks a.settings (once_state a) a.head a.sequencer k.pages h c.args.collector c.args.batch.now k.head_represents k.mirrors c.in_ok-may_take.ensures.collector c.in_ok-may_take.ensures.room)

pub returns-in_err-kept-clause-counter_full : goal.returns-in_err-kept-clause-counter_full
returns-in_err-kept-clause-counter_full g c h k =
    let a = c.args.self.now in
    let r = c.from_residual-in_err-kept.result in
    no_counter (site_of a).blocks a.settings (once_state a) a.head k.pages h c.args.collector (sum_by entry_octets c.args.batch.now) (length c.args.batch.now) r admits.OutOfMemory k.head_represents
    (reported_err r _ c.from_residual-in_err-kept.ensures.1) memory_later c.in_ok-may_take.ensures.collector c.in_ok-may_take.ensures.counts

-- ---- nothing is planned

pub returns-in_err-next-clause-counter_full : goal.returns-in_err-next-clause-counter_full
returns-in_err-next-clause-counter_full g c h k =
    let a = c.args.self.now in
    let r = c.from_residual-in_err-next.result in
    let usable = ap needs_recovery c.begin.ensures.same ∙ c.in_ok-begin.ensures.usable in
    no_counter (site_of a).blocks a.settings (once_state a) a.head k.pages h c.args.collector (sum_by entry_octets c.args.batch.now) (length c.args.batch.now) r c.in_err-next.field-0.0 k.head_represents
    (reported_err r _ c.from_residual-in_err-next.ensures.1) (plan_later _ c.in_err-next.field-0.0 c.in_err-next.ensures.refused usable) c.in_ok-may_take.ensures.collector c.in_ok-may_take.ensures.counts

pub returns-in_err-next-clause-intake_full : goal.returns-in_err-next-clause-intake_full
returns-in_err-next-clause-intake_full g c h k =
    let a = c.args.self.now in
    let r = c.from_residual-in_err-next.result in
    let usable = ap needs_recovery c.begin.ensures.same ∙ c.in_ok-begin.ensures.usable in
    no_crowd (sum_by entry_octets c.args.batch.now) a.settings h c.args.collector (length c.args.batch.now) c.args.batch.now r c.in_err-next.field-0.0
    (reported_err r _ c.from_residual-in_err-next.ensures.1) (plan_later _ c.in_err-next.field-0.0 c.in_err-next.ensures.refused usable)
    (not_crowded (site_of a).blocks a.settings (once_state a) a.head a.sequencer k.pages h c.args.collector c.args.batch.now k.head_represents k.mirrors c.in_ok-may_take.ensures.collector c.in_ok-may_take.ensures.room)

pub returns-in_err-next-clause-undamaged : goal.returns-in_err-next-clause-undamaged
returns-in_err-next-clause-undamaged g c h k page reported =
    let a = c.args.self.now in
    let r = c.from_residual-in_err-next.result in
    let same = as_reported r c.in_err-next.field-0.0 (admits.BadNode page) (reported_err r _ c.from_residual-in_err-next.ensures.1) reported in
    let start : Start = start_of a h k in
    let s0 = c.in_ok-begin.ensures.shown k.honest.0 k.pages k.maps in
    let number = k.head_represents.number in
    let counted = k.head_represents.lanes_number in
    let collector = c.in_ok-may_take.ensures.collector in
    let low : c.args.collector < length h.intakes = omega (arith, number, collector) in
    let it = intake_at c.args.collector h.intakes low in
    let at = mark_there a.sequencer h c.args.collector it.0 k.mirrors it.1 in
    let lane = lane_at c.args.collector a.head.lanes (omega (arith, counted, collector)) in
    c.in_err-next.ensures.undamaged (site_of a).blocks (once_state a) start k.pages h it.0 c.args.batch.now lane.0 s0 k.head_represents it.1 (c.in_ok-kept.ensures.kept it.0.mark at) lane.1 (c.in_ok-may_take.ensures.counts lane.0 lane.1) page (ap (λ x. Err x) same)

-- ---- the commit is refused

pub returns-in_err-commit-clause-counter_full : goal.returns-in_err-commit-clause-counter_full
returns-in_err-commit-clause-counter_full g c h k =
    let a = c.args.self.now in
    let r = c.from_residual-in_err-commit.result in
    let usable = c.plan_batch.ensures.down ∙ (ap needs_recovery c.begin.ensures.same ∙ c.in_ok-begin.ensures.usable) in
    no_counter (site_of a).blocks a.settings (once_state a) a.head k.pages h c.args.collector (sum_by entry_octets c.args.batch.now) (length c.args.batch.now) r _ k.head_represents
    (reported_err r _ c.from_residual-in_err-commit.ensures.1) (commit_later _ c.in_err-commit.field-0.0 c.in_err-commit.ensures.refused usable).later c.in_ok-may_take.ensures.collector c.in_ok-may_take.ensures.counts

pub returns-in_err-commit-clause-intake_full : goal.returns-in_err-commit-clause-intake_full
returns-in_err-commit-clause-intake_full g c h k =
    let a = c.args.self.now in
    let r = c.from_residual-in_err-commit.result in
    let usable = c.plan_batch.ensures.down ∙ (ap needs_recovery c.begin.ensures.same ∙ c.in_ok-begin.ensures.usable) in
    no_crowd (sum_by entry_octets c.args.batch.now) a.settings h c.args.collector (length c.args.batch.now) c.args.batch.now r _
    (reported_err r _ c.from_residual-in_err-commit.ensures.1) (commit_later _ c.in_err-commit.field-0.0 c.in_err-commit.ensures.refused usable).later
    (not_crowded (site_of a).blocks a.settings (once_state a) a.head a.sequencer k.pages h c.args.collector c.args.batch.now k.head_represents k.mirrors c.in_ok-may_take.ensures.collector c.in_ok-may_take.ensures.room)

-- ---- the batch is taken

pub returns-clause-counter_full : goal.returns-clause-counter_full
returns-clause-counter_full g c h k =
    let a = c.args.self.now in
    (λ e. cc, λ full. absurd (not_full (site_of a).blocks a.settings (once_state a) a.head k.pages h c.args.collector (length c.args.batch.now) k.head_represents c.in_ok-may_take.ensures.collector c.in_ok-may_take.ensures.counts full.1))

pub returns-clause-intake_full : goal.returns-clause-intake_full
returns-clause-intake_full g c h k =
    let a = c.args.self.now in
    (λ e. cc, λ full. absurd (not_crowded (site_of a).blocks a.settings (once_state a) a.head a.sequencer k.pages h c.args.collector c.args.batch.now k.head_represents k.mirrors c.in_ok-may_take.ensures.collector c.in_ok-may_take.ensures.room full.2))

pub invariant_of-self-2-clause-lanes : goal.invariant_of-self-2-clause-lanes
invariant_of-self-2-clause-lanes g c = c.in_ok-next.ensures.lanes ∙ c.args.self.now.lanes

-- ---- what must be opened again

pub returns-in_err-commit-clause-falls : goal.returns-in_err-commit-clause-falls
returns-in_err-commit-clause-falls g c up down =
    let was = c.plan_batch.ensures.down ∙ (ap needs_recovery c.begin.ensures.same ∙ up) in
    let fell = c.in_err-commit.ensures.falls was down in
    reported_fault c.from_residual-in_err-commit.result admit_of_use c.in_err-commit.field-0.0 c.from_residual-in_err-commit.ensures.1 (cc fell)

-- ---- how often the device failed

pub returns-in_err-begin-clause-device : goal.returns-in_err-begin-clause-device
returns-in_err-begin-clause-device g c = keeps_reported _ _ _ _ ⊥ _ (λ reported. search (rules, reported)) (λ f. absurd f) (keeps_same g.E.EraseDisk (journal_of (pool_of c.args.self.now.tx)) (journal_of (pool_of c.begin.new.tx)) c.begin.ensures.same)

pub returns-in_err-may_take-clause-device : goal.returns-in_err-may_take-clause-device
returns-in_err-may_take-clause-device g c =
    let r = c.from_residual-in_err-may_take.result in
    let refused = c.in_err-may_take.ensures.refused in
    keeps_reported _ _ _ _ ⊥ _ (λ reported. let is = reported_as r c.in_err-may_take.field-0.0 admits.Fault c.from_residual-in_err-may_take.ensures.1 reported in not_taken c.in_err-may_take.field-0.0 refused is) (λ f. absurd f) (keeps_same g.E.EraseDisk (journal_of (pool_of c.args.self.now.tx)) (journal_of (pool_of c.begin.new.tx)) c.begin.ensures.same)

pub returns-in_err-kept-clause-device : goal.returns-in_err-kept-clause-device
returns-in_err-kept-clause-device g c = keeps_reported _ _ _ _ ⊥ _ (λ reported. search (rules, reported)) (λ f. absurd f) (keeps_same g.E.EraseDisk (journal_of (pool_of c.args.self.now.tx)) (journal_of (pool_of c.begin.new.tx)) c.begin.ensures.same)

pub returns-in_err-next-clause-device : goal.returns-in_err-next-clause-device
returns-in_err-next-clause-device g c =
    let r = c.from_residual-in_err-next.result in
    let is = c.from_residual-in_err-next.ensures.1 in
    keeps_then _ _ _ _ _ _ _ (keeps_same g.E.EraseDisk (journal_of (pool_of c.args.self.now.tx)) (journal_of (pool_of c.begin.new.tx)) c.begin.ensures.same)
    (keeps_reported _ _ _ _ _ _ (λ reported. ap (λ e. Err e) (reported_as r c.in_err-next.field-0.0 admits.Fault is reported)) (λ f. let same : c.in_err-next.field-0.0 ≡ admits.Fault = cc f in reported_of r _ is ∙ ap (λ e. Err e) same) c.in_err-next.ensures.device)

pub returns-in_err-commit-clause-device : goal.returns-in_err-commit-clause-device
returns-in_err-commit-clause-device g c =
    let r = c.from_residual-in_err-commit.result in
    let is = c.from_residual-in_err-commit.ensures.1 in
    keeps_then _ _ _ _ _ _ _ (keeps_same g.E.EraseDisk (journal_of (pool_of c.args.self.now.tx)) (journal_of (pool_of c.begin.new.tx)) c.begin.ensures.same)
    (keeps_then _ _ _ _ _ _ _ (keeps_reported _ _ _ _ _ ⊥ (λ f. absurd f) (λ f. cc) c.in_ok-next.ensures.device)
    (keeps_reported _ _ _ _ _ _ (λ reported. ap (λ e. Err e) (admit_fault c.in_err-commit.field-0.0 (reported_as r _ admits.Fault is reported))) (λ f. reported_fault r admit_of_use c.in_err-commit.field-0.0 is (cc f))
    (keeps_served g.E.EraseDisk _ _ _ c.in_err-commit.ensures.journal.serves)))

pub returns-clause-device : goal.returns-clause-device
returns-clause-device g c =
    keeps_then _ _ _ _ _ _ _ (keeps_same g.E.EraseDisk (journal_of (pool_of c.args.self.now.tx)) (journal_of (pool_of c.begin.new.tx)) c.begin.ensures.same)
    (keeps_then _ _ _ _ _ _ _ (keeps_reported _ _ _ _ _ ⊥ (λ f. absurd f) (λ f. cc) c.in_ok-next.ensures.device)
    (keeps_reported _ _ _ _ _ _ (λ reported. absurd cc) (λ f. absurd cc) (keeps_served g.E.EraseDisk _ _ _ c.in_ok-commit.ensures.journal.serves)))

-- ---- where memory is refused nothing was written

pub returns-in_err-kept-clause-memory : goal.returns-in_err-kept-clause-memory
returns-in_err-kept-clause-memory g c h k reported = ap (λ j. (g.E.EraseDisk.model (disk_of j)).clock) c.begin.ensures.same

pub returns-in_err-next-clause-memory : goal.returns-in_err-next-clause-memory
returns-in_err-next-clause-memory g c h k reported =
    let a = c.args.self.now in
    let s0 = c.in_ok-begin.ensures.shown k.honest.0 k.pages k.maps in
    let now = c.plan_batch.ensures.shown (site_of a).blocks (once_state a) (start_of a h k) k.pages h s0 k.head_represents in
    now.1.clocked

pub returns-in_err-commit-clause-memory : goal.returns-in_err-commit-clause-memory
returns-in_err-commit-clause-memory g c h k reported =
    let r = c.from_residual-in_err-commit.result in
    absurd (admit_memory c.in_err-commit.field-0.0 (reported_as r _ admits.OutOfMemory c.from_residual-in_err-commit.ensures.1 reported))
