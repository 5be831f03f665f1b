use Rattle.std.proofs.Common.{rules, ◌≡◌, ◌<◌, inl, length, refl, sym, ◌∙◌, ap, arith, Err, true≢false}
use Rattle.page_journal.specs.Journal.{home_pages, needs_recovery}
use Rattle.page_tx.specs.Start.{Start}
use Rattle.interleaving_core.specs.Steps.{marked}
use Rattle.interleaving_core.proofs.api.GoingOn.{begins_marked}
use Rattle.disk_archive.specs.Archives.{once_state, site_of}
use Rattle.disk_archive.specs.Sites.{LeftEither, LeftMarked}
use Rattle.disk_archive.specs.inner.Marked.{mark_of_use}
use Rattle.disk_archive.proofs.Mirroring.{intake_at, mark_there, mirror_marked}
use Rattle.disk_archive.proofs.Outcomes.{on_each_err}
use Rattle.disk_archive.proofs.Calling.{Ready, start_of, grows_none, unwritten, written, kept, refused, done}
use Rattle.disk_archive.proofs.Marks.{not_above_there, represents_present, at_present, left_before, left_marked, from_commit, reported_err, not_reported, back_reported, present_not_back, not_present}
use Rattle.disk_archive.specs.declared.mark_error.MarkError.TheVariants as refusals
use Rattle.disk_archive.proofs.Steps.{crashes_weaker}
use Rattle.buffer_pool.specs.Pool.{journal_of}
use Rattle.page_tx.specs.Tx.{pool_of}
use Rattle.disk_archive.proofs.Faults.{keeps_same, keeps_served, keeps_then, keeps_reported, mark_fault, mark_memory, not_raised, reported_as}
use Rattle.disk_archive.proofs.Staying.{reported_fault}
use Rattle.disk_archive.proofs.archive.Archive.try_mark.Goals as goal

-- ---- the collector is none, or the mark is below its mark

pub returns-in_err-raised-clause-err : goal.returns-in_err-raised-clause-err
returns-in_err-raised-clause-err g c = on_each_err c.from_residual-in_err-raised.result _ (λ h k.
    let a = c.args.self.now in
    let s0 = c.in_ok-begin.ensures.shown k.honest.0 k.pages k.maps in
    let homes0 = ap home_pages c.begin.ensures.same in
    let r : Ready a h k c.begin.new.tx k.pages = record { shows = s0; homes = homes0 } in
    inl (kept a _ h k k.pages r refl refl refl refl (s0.honest, k.honest.1) k.mirrors))

pub returns-in_err-raised-clause-crash : goal.returns-in_err-raised-clause-crash
returns-in_err-raised-clause-crash g c h k =
    let a = c.args.self.now in
    let sound = g.met.E.EraseDisk.sound in
    let s0 = c.in_ok-begin.ensures.shown k.honest.0 k.pages k.maps in
    let homes0 = ap home_pages c.begin.ensures.same in
    let r : Ready a h k c.begin.new.tx k.pages = record { shows = s0; homes = homes0 } in
    crashes_weaker a _ (LeftEither (site_of a) h h) (LeftMarked (site_of a) h c.args.collector c.args.mark) (left_before (site_of a) h c.args.collector c.args.mark)
    (unwritten a _ h h k k.pages sound r (grows_none (once_state a)))

-- ---- the mark is the collector's present one

pub returns-then-not-raised-clause-ok : goal.returns-then-not-raised-clause-ok
returns-then-not-raised-clause-ok g c h k =
    let a = c.args.self.now in
    let s0 = c.in_ok-begin.ensures.shown k.honest.0 k.pages k.maps in
    let homes0 = ap home_pages c.begin.ensures.same in
    let r : Ready a h k c.begin.new.tx k.pages = record { shows = s0; homes = homes0 } in
    let number = k.head_represents.number in
    let collector = c.in_ok-raised.ensures.collector in
    let low : c.args.collector < length h.intakes = omega (arith, number, collector) in
    let it = intake_at c.args.collector h.intakes low in
    let at = mark_there a.sequencer h c.args.collector it.0 k.mirrors it.1 in
    let same = at_present c.in_ok-raised.raised it.0.mark c.args.mark (cc c.if-not-raised.true) (c.in_ok-raised.ensures.forward it.0.mark at) (c.in_ok-raised.ensures.above it.0.mark at) in
    represents_present _ h c.args.collector c.args.mark it.0 it.1 same
    (kept a _ h k k.pages r refl refl refl refl (s0.honest, k.honest.1) k.mirrors)

pub returns-then-not-raised-clause-crash : goal.returns-then-not-raised-clause-crash
returns-then-not-raised-clause-crash g c h k =
    let a = c.args.self.now in
    let sound = g.met.E.EraseDisk.sound in
    let s0 = c.in_ok-begin.ensures.shown k.honest.0 k.pages k.maps in
    let homes0 = ap home_pages c.begin.ensures.same in
    let r : Ready a h k c.begin.new.tx k.pages = record { shows = s0; homes = homes0 } in
    crashes_weaker a _ (LeftEither (site_of a) h h) (LeftMarked (site_of a) h c.args.collector c.args.mark) (left_before (site_of a) h c.args.collector c.args.mark)
    (unwritten a _ h h k k.pages sound r (grows_none (once_state a)))

-- ---- nothing is planned

pub returns-in_err-next-clause-err : goal.returns-in_err-next-clause-err
returns-in_err-next-clause-err g c = on_each_err c.from_residual-in_err-next.result _ (λ h k.
    let a = c.args.self.now in
    let start : Start = start_of a h k in
    let s0 = c.in_ok-begin.ensures.shown k.honest.0 k.pages k.maps in
    let homes0 = ap home_pages c.begin.ensures.same in
    let s1 = c.in_err-next.ensures.same start k.pages s0 in
    let r : Ready a h k c.plan_mark.new.pages k.pages = record { shows = s1; homes = c.plan_mark.ensures.homes ∙ homes0 } in
    inl (kept a _ h k k.pages r refl refl refl refl (s1.honest, k.honest.1) k.mirrors))

pub returns-in_err-next-clause-crash : goal.returns-in_err-next-clause-crash
returns-in_err-next-clause-crash g c h k =
    let a = c.args.self.now in
    let sound = g.met.E.EraseDisk.sound in
    let start : Start = start_of a h k in
    let s0 = c.in_ok-begin.ensures.shown k.honest.0 k.pages k.maps in
    let homes0 = ap home_pages c.begin.ensures.same in
    let r : Ready a h k c.plan_mark.new.pages k.pages = record { shows = c.in_err-next.ensures.same start k.pages s0; homes = c.plan_mark.ensures.homes ∙ homes0 } in
    crashes_weaker a _ (LeftEither (site_of a) h h) (LeftMarked (site_of a) h c.args.collector c.args.mark) (left_before (site_of a) h c.args.collector c.args.mark)
    (unwritten a _ h h k k.pages sound r (grows_none (once_state a)))

-- ---- the commit is refused

pub returns-in_err-commit-clause-err : goal.returns-in_err-commit-clause-err
returns-in_err-commit-clause-err g c = on_each_err c.from_residual-in_err-commit.result _ (λ h k.
    let a = c.args.self.now in
    let w = marked h c.args.collector c.args.mark in
    let sound = g.met.E.EraseDisk.sound in
    let start : Start = start_of a h k in
    let s0 = c.in_ok-begin.ensures.shown k.honest.0 k.pages k.maps in
    let homes0 = ap home_pages c.begin.ensures.same in
    let below = not_above_there a.sequencer h c.args.collector c.args.mark k.mirrors c.in_ok-raised.ensures.forward in
    let plan = c.in_ok-next.ensures.planned a.settings (site_of a).blocks (once_state a) start k.pages h s0 k.head_represents below in
    let r : Ready a h k c.plan_mark.new.pages plan.pages = record { shows = plan.shown; homes = c.plan_mark.ensures.homes ∙ homes0 } in
    let l = c.commit.ensures.crash start plan.pages plan.shown in
    refused a _ h w k c.plan_mark.new.pages plan.pages c.in_ok-next.next sound r c.commit.ensures.journal.homes c.commit.ensures.journal.note refl refl refl refl
    (c.commit.ensures.journal.serves.honest.0 plan.shown.honest, k.honest.1) k.mirrors
    (begins_marked h c.args.collector c.args.mark below) plan.headed l (c.in_err-commit.ensures.err start plan.pages plan.shown))

pub returns-in_err-commit-clause-crash : goal.returns-in_err-commit-clause-crash
returns-in_err-commit-clause-crash g c h k =
    let a = c.args.self.now in
    let w = marked h c.args.collector c.args.mark in
    let sound = g.met.E.EraseDisk.sound in
    let start : Start = start_of a h k in
    let s0 = c.in_ok-begin.ensures.shown k.honest.0 k.pages k.maps in
    let homes0 = ap home_pages c.begin.ensures.same in
    let below = not_above_there a.sequencer h c.args.collector c.args.mark k.mirrors c.in_ok-raised.ensures.forward in
    let plan = c.in_ok-next.ensures.planned a.settings (site_of a).blocks (once_state a) start k.pages h s0 k.head_represents below in
    let r : Ready a h k c.plan_mark.new.pages plan.pages = record { shows = plan.shown; homes = c.plan_mark.ensures.homes ∙ homes0 } in
    let l = c.commit.ensures.crash start plan.pages plan.shown in
    crashes_weaker a _ (LeftEither (site_of a) h w) (LeftMarked (site_of a) h c.args.collector c.args.mark) (left_marked (site_of a) h c.args.collector c.args.mark below)
    (written a _ h w k c.plan_mark.new.pages plan.pages c.in_ok-next.next sound r (grows_none (once_state a)) plan.headed l)

-- ---- the mark is raised

pub returns-clause-crash : goal.returns-clause-crash
returns-clause-crash g c h k =
    let a = c.args.self.now in
    let w = marked h c.args.collector c.args.mark in
    let sound = g.met.E.EraseDisk.sound in
    let start : Start = start_of a h k in
    let s0 = c.in_ok-begin.ensures.shown k.honest.0 k.pages k.maps in
    let homes0 = ap home_pages c.begin.ensures.same in
    let below = not_above_there a.sequencer h c.args.collector c.args.mark k.mirrors c.in_ok-raised.ensures.forward in
    let plan = c.in_ok-next.ensures.planned a.settings (site_of a).blocks (once_state a) start k.pages h s0 k.head_represents below in
    let r : Ready a h k c.plan_mark.new.pages plan.pages = record { shows = plan.shown; homes = c.plan_mark.ensures.homes ∙ homes0 } in
    let l = c.commit.ensures.crash start plan.pages plan.shown in
    crashes_weaker a _ (LeftEither (site_of a) h w) (LeftMarked (site_of a) h c.args.collector c.args.mark) (left_marked (site_of a) h c.args.collector c.args.mark below)
    (written a _ h w k c.plan_mark.new.pages plan.pages c.in_ok-next.next sound r (grows_none (once_state a)) plan.headed l)

pub returns-clause-ok : goal.returns-clause-ok
returns-clause-ok g c h k =
    let a = c.args.self.now in
    let w = marked h c.args.collector c.args.mark in
    let start : Start = start_of a h k in
    let s0 = c.in_ok-begin.ensures.shown k.honest.0 k.pages k.maps in
    let below = not_above_there a.sequencer h c.args.collector c.args.mark k.mirrors c.in_ok-raised.ensures.forward in
    let plan = c.in_ok-next.ensures.planned a.settings (site_of a).blocks (once_state a) start k.pages h s0 k.head_represents below in
    let mirrors = mirror_marked a.sequencer c.raise.new.sequencer h c.args.collector c.args.mark k.mirrors c.raise.ensures.raised in
    done a _ w plan.pages refl refl refl k.noted (c.commit.ensures.journal.homes ∙ c.plan_mark.ensures.homes ∙ ap home_pages c.begin.ensures.same) (c.commit.ensures.journal.note ∙ plan.shown.noted) (c.commit.ensures.journal.serves.honest.0 plan.shown.honest, k.honest.1) (c.in_ok-commit.ensures.ok start plan.pages plan.shown) mirrors plan.headed

-- ---- what is returned

pub returns-in_err-raised-clause-mark_back : goal.returns-in_err-raised-clause-mark_back
returns-in_err-raised-clause-mark_back g c h k =
    let a = c.args.self.now in
    let was = c.in_err-raised.was in
    let r = c.from_residual-in_err-raised.result in
    back_reported r c.in_err-raised.field-0.0 a.sequencer h a.settings.collectors c.args.collector c.args.mark (reported_err r _ c.from_residual-in_err-raised.ensures.1) c.in_err-raised.ensures.refused
    (λ e. c.in_err-raised.ensures.no_collector.0 (ap (λ x. Err x) e)) (λ ge. let q = c.in_err-raised.ensures.no_collector.1 ge in cc) (λ e. c.in_err-raised.ensures.back (ap (λ x. Err x) e))
    k.mirrors k.head_represents.number

pub returns-in_err-raised-clause-present : goal.returns-in_err-raised-clause-present
returns-in_err-raised-clause-present g c h k i here same =
    let a = c.args.self.now in
    absurd (present_not_back c.in_err-raised.field-0.0 a.sequencer h a.settings.collectors c.args.collector c.args.mark i c.in_err-raised.ensures.refused
    (λ e. c.in_err-raised.ensures.no_collector.0 (ap (λ x. Err x) e)) (λ e. c.in_err-raised.ensures.back (ap (λ x. Err x) e)) k.mirrors k.head_represents.number here same)

pub returns-then-not-raised-clause-mark_back : goal.returns-then-not-raised-clause-mark_back
returns-then-not-raised-clause-mark_back g c h k = (λ e. cc, λ above. absurd (not_above_there c.args.self.now.sequencer h c.args.collector c.args.mark k.mirrors c.in_ok-raised.ensures.forward above))

pub returns-then-not-raised-clause-forward : goal.returns-then-not-raised-clause-forward
returns-then-not-raised-clause-forward g c h k = not_above_there c.args.self.now.sequencer h c.args.collector c.args.mark k.mirrors c.in_ok-raised.ensures.forward

pub returns-in_err-next-clause-mark_back : goal.returns-in_err-next-clause-mark_back
returns-in_err-next-clause-mark_back g c h k =
    let r = c.from_residual-in_err-next.result in (
      λ back. absurd (not_reported r c.in_err-next.field-0.0 refusals.MarkBack (reported_err r _ c.from_residual-in_err-next.ensures.1) (λ e. let m = c.in_err-next.ensures.refused in let both : refusals.OutOfMemory ≡ refusals.MarkBack = sym m ∙ e in cc) back),
      λ above. absurd (not_above_there c.args.self.now.sequencer h c.args.collector c.args.mark k.mirrors c.in_ok-raised.ensures.forward above),
    )

pub returns-in_err-next-clause-present : goal.returns-in_err-next-clause-present
returns-in_err-next-clause-present g c h k i here same = absurd (not_present c.args.self.now.sequencer h c.args.collector c.args.mark i c.in_ok-raised.raised (cc c.if-not-raised.false) c.in_ok-raised.ensures.above k.mirrors here same)

pub returns-in_err-commit-clause-mark_back : goal.returns-in_err-commit-clause-mark_back
returns-in_err-commit-clause-mark_back g c h k =
    let r = c.from_residual-in_err-commit.result in
    let usable = c.plan_mark.ensures.down ∙ (ap needs_recovery c.begin.ensures.same ∙ c.in_ok-begin.ensures.usable) in
    let own = from_commit _ c.in_err-commit.field-0.0 c.in_err-commit.ensures.refused usable in (
      λ back. absurd (not_reported r _ refusals.MarkBack (reported_err r _ c.from_residual-in_err-commit.ensures.1) own.back back),
      λ above. absurd (not_above_there c.args.self.now.sequencer h c.args.collector c.args.mark k.mirrors c.in_ok-raised.ensures.forward above),
    )

pub returns-in_err-commit-clause-recovery : goal.returns-in_err-commit-clause-recovery
returns-in_err-commit-clause-recovery g c =
    let r = c.from_residual-in_err-commit.result in
    let usable = c.plan_mark.ensures.down ∙ (ap needs_recovery c.begin.ensures.same ∙ c.in_ok-begin.ensures.usable) in
    let own = from_commit _ c.in_err-commit.field-0.0 c.in_err-commit.ensures.refused usable in (
      λ reported. absurd (not_reported r _ refusals.NeedsRecovery (reported_err r _ c.from_residual-in_err-commit.ensures.1) own.usable reported),
      λ down. absurd (true≢false (sym down ∙ c.in_ok-begin.ensures.usable)),
    )

pub returns-in_err-commit-clause-no_collector : goal.returns-in_err-commit-clause-no_collector
returns-in_err-commit-clause-no_collector g c =
    let r = c.from_residual-in_err-commit.result in
    let usable = c.plan_mark.ensures.down ∙ (ap needs_recovery c.begin.ensures.same ∙ c.in_ok-begin.ensures.usable) in
    let own = from_commit _ c.in_err-commit.field-0.0 c.in_err-commit.ensures.refused usable in
    let low = c.in_ok-raised.ensures.collector in (
      λ reported. absurd (not_reported r _ refusals.NoCollector (reported_err r _ c.from_residual-in_err-commit.ensures.1) own.collector reported),
      λ is. let ge = is.1 in absurd (omega (arith, low, ge)),
    )

pub returns-in_err-commit-clause-present : goal.returns-in_err-commit-clause-present
returns-in_err-commit-clause-present g c h k i here same = absurd (not_present c.args.self.now.sequencer h c.args.collector c.args.mark i c.in_ok-raised.raised (cc c.if-not-raised.false) c.in_ok-raised.ensures.above k.mirrors here same)

pub returns-clause-mark_back : goal.returns-clause-mark_back
returns-clause-mark_back g c h k = (λ e. cc, λ above. absurd (not_above_there c.args.self.now.sequencer h c.args.collector c.args.mark k.mirrors c.in_ok-raised.ensures.forward above))

pub returns-clause-forward : goal.returns-clause-forward
returns-clause-forward g c h k = not_above_there c.args.self.now.sequencer h c.args.collector c.args.mark k.mirrors c.in_ok-raised.ensures.forward

pub returns-clause-present : goal.returns-clause-present
returns-clause-present g c h k i here same = absurd (not_present c.args.self.now.sequencer h c.args.collector c.args.mark i c.in_ok-raised.raised (cc c.if-not-raised.false) c.in_ok-raised.ensures.above k.mirrors here same)

-- ---- what must be opened again

pub returns-in_err-commit-clause-falls : goal.returns-in_err-commit-clause-falls
returns-in_err-commit-clause-falls g c up down =
    let was = c.plan_mark.ensures.down ∙ (ap needs_recovery c.begin.ensures.same ∙ up) in
    let fell = c.in_err-commit.ensures.falls was down in
    reported_fault c.from_residual-in_err-commit.result mark_of_use c.in_err-commit.field-0.0 c.from_residual-in_err-commit.ensures.1 (cc fell)

-- ---- how often the device failed

pub returns-in_err-begin-clause-device : goal.returns-in_err-begin-clause-device
returns-in_err-begin-clause-device g c = keeps_reported _ _ _ _ ⊥ _ (λ reported. search (rules, reported)) (λ f. absurd f) (keeps_same g.E.EraseDisk (journal_of (pool_of c.args.self.now.tx)) (journal_of (pool_of c.begin.new.tx)) c.begin.ensures.same)

pub returns-in_err-raised-clause-device : goal.returns-in_err-raised-clause-device
returns-in_err-raised-clause-device g c =
    let r = c.from_residual-in_err-raised.result in
    keeps_reported _ _ _ _ ⊥ _ (λ reported. not_raised c.in_err-raised.field-0.0 c.in_err-raised.ensures.refused (reported_as r c.in_err-raised.field-0.0 refusals.Fault c.from_residual-in_err-raised.ensures.1 reported)) (λ f. absurd f) (keeps_same g.E.EraseDisk (journal_of (pool_of c.args.self.now.tx)) (journal_of (pool_of c.begin.new.tx)) c.begin.ensures.same)

pub returns-then-not-raised-clause-device : goal.returns-then-not-raised-clause-device
returns-then-not-raised-clause-device g c = keeps_reported _ _ _ _ ⊥ _ (λ reported. cc) (λ f. absurd f) (keeps_same g.E.EraseDisk (journal_of (pool_of c.args.self.now.tx)) (journal_of (pool_of c.begin.new.tx)) c.begin.ensures.same)

pub returns-in_err-next-clause-device : goal.returns-in_err-next-clause-device
returns-in_err-next-clause-device g c =
    let r = c.from_residual-in_err-next.result in
    let memory = c.in_err-next.ensures.refused in
    keeps_then _ _ _ _ _ _ _ (keeps_same g.E.EraseDisk (journal_of (pool_of c.args.self.now.tx)) (journal_of (pool_of c.begin.new.tx)) c.begin.ensures.same)
    (keeps_reported _ _ _ _ ⊥ _ (λ reported. let is = reported_as r c.in_err-next.field-0.0 refusals.Fault c.from_residual-in_err-next.ensures.1 reported in let both : refusals.OutOfMemory ≡ refusals.Fault = sym memory ∙ is in cc) (λ f. absurd f) c.plan_mark.ensures.device)

pub returns-in_err-commit-clause-device : goal.returns-in_err-commit-clause-device
returns-in_err-commit-clause-device g c =
    let r = c.from_residual-in_err-commit.result in
    let is = c.from_residual-in_err-commit.ensures.1 in
    keeps_then _ _ _ _ _ _ _ (keeps_same g.E.EraseDisk (journal_of (pool_of c.args.self.now.tx)) (journal_of (pool_of c.begin.new.tx)) c.begin.ensures.same)
    (keeps_then _ _ _ _ _ _ _ c.plan_mark.ensures.device
    (keeps_reported _ _ _ _ _ _ (λ reported. ap (λ e. Err e) (mark_fault c.in_err-commit.field-0.0 (reported_as r _ refusals.Fault is reported))) (λ f. reported_fault r mark_of_use c.in_err-commit.field-0.0 is (cc f))
    (keeps_served g.E.EraseDisk _ _ _ c.in_err-commit.ensures.journal.serves)))

pub returns-clause-device : goal.returns-clause-device
returns-clause-device g c =
    keeps_then _ _ _ _ _ _ _ (keeps_same g.E.EraseDisk (journal_of (pool_of c.args.self.now.tx)) (journal_of (pool_of c.begin.new.tx)) c.begin.ensures.same)
    (keeps_then _ _ _ _ _ _ _ c.plan_mark.ensures.device
    (keeps_reported _ _ _ _ _ _ (λ reported. absurd cc) (λ f. absurd cc) (keeps_served g.E.EraseDisk _ _ _ c.in_ok-commit.ensures.journal.serves)))

-- ---- where memory is refused nothing was written

pub returns-in_err-next-clause-memory : goal.returns-in_err-next-clause-memory
returns-in_err-next-clause-memory g c h k reported =
    let s0 = c.in_ok-begin.ensures.shown k.honest.0 k.pages k.maps in
    let s1 = c.in_err-next.ensures.same (start_of c.args.self.now h k) k.pages s0 in
    s1.clocked

pub returns-in_err-commit-clause-memory : goal.returns-in_err-commit-clause-memory
returns-in_err-commit-clause-memory g c h k reported =
    let r = c.from_residual-in_err-commit.result in
    absurd (mark_memory c.in_err-commit.field-0.0 (reported_as r _ refusals.OutOfMemory c.from_residual-in_err-commit.ensures.1 reported))
