use Rattle.std.proofs.Common.{rules, Err, ◌≡◌, inl, ◌∙◌, ap, refl}
use Rattle.disk_models.proofs.api.Moments.{leaves_weaker}
use Rattle.page_journal.specs.Journal.{home_pages, needs_recovery, note_of}
use Rattle.page_journal.specs.Recovers.{Recovers, RecoversEither}
use Rattle.buffer_pool.specs.Pool.{journal_of}
use Rattle.page_tx.specs.Start.{Start}
use Rattle.page_tx.specs.Tx.{pool_of}
use Rattle.route_meaning.proofs.api.Beginning.{Begins-refl}
use Rattle.disk_archive.specs.Archives.{once_state}
use Rattle.disk_archive.proofs.Calling.{Ready, start_of, headed_of, grows_none, written, refused}
use Rattle.disk_archive.proofs.Outcomes.{down_or}
use Rattle.disk_archive.proofs.Reporting.{represents_same}
use Rattle.disk_archive.specs.declared.flush_error.FlushError.TheVariants as flushes
use Rattle.page_journal.specs.declared.error.UseError.TheVariants as uses
use Rattle.disk_archive.specs.inner.Flushed.{flush_of_use}
use Rattle.disk_archive.proofs.Faults.{flush_fault, keeps_same, keeps_served, keeps_then, keeps_reported, reported_as, reported_of}
use Rattle.disk_archive.proofs.archive.Archive.try_flush.Goals as goal

pub returns-clause-goes_on : goal.returns-clause-goes_on
returns-clause-goes_on g c h k =
    let a = c.args.self.now in
    let start : Start = start_of a h k in
    let s0 = c.in_ok-begin.ensures.shown k.honest.0 k.pages k.maps in
    let s1 = c.write_home.ensures.shown start k.pages s0 c.in_ok-write_home.ensures.ok in
    inl (represents_same a _ h k refl refl refl refl (c.write_home.ensures.journal.homes ∙ ap home_pages c.begin.ensures.same) (c.write_home.ensures.journal.note ∙ ap note_of c.begin.ensures.same) (c.write_home.ensures.journal.serves.honest.0 s0.honest, k.honest.1) s1.1.maps k.mirrors)

pub returns-clause-crash : goal.returns-clause-crash
returns-clause-crash g c h k =
    let a = c.args.self.now in
    let sound = g.met.E.EraseDisk.sound in
    let start : Start = start_of a h k in
    let s0 = c.in_ok-begin.ensures.shown k.honest.0 k.pages k.maps in
    let homes0 = ap home_pages c.begin.ensures.same in
    let r : Ready a h k c.begin.new.tx k.pages = record { shows = s0; homes = homes0 } in
    let homes = home_pages (journal_of (pool_of c.begin.new.tx)) in
    let l = leaves_weaker _ _ (λ f. Recovers homes start.note f start.pages) (RecoversEither homes start.note start.pages k.pages) (λ f means. inl means) (c.write_home.ensures.crash start k.pages s0) in
    written a _ h h k c.begin.new.tx k.pages a.head sound r (grows_none (once_state a)) (headed_of a h k) l

pub returns-in_err-write_home-clause-goes_on : goal.returns-in_err-write_home-clause-goes_on
returns-in_err-write_home-clause-goes_on g c h k =
    let a = c.args.self.now in
    let sound = g.met.E.EraseDisk.sound in
    let start : Start = start_of a h k in
    let s0 = c.in_ok-begin.ensures.shown k.honest.0 k.pages k.maps in
    let homes0 = ap home_pages c.begin.ensures.same in
    let r : Ready a h k c.begin.new.tx k.pages = record { shows = s0; homes = homes0 } in
    let homes = home_pages (journal_of (pool_of c.begin.new.tx)) in
    let l = leaves_weaker _ _ (λ f. Recovers homes start.note f start.pages) (RecoversEither homes start.note start.pages k.pages) (λ f means. inl means) (c.write_home.ensures.crash start k.pages s0) in
    refused a _ h h k c.begin.new.tx k.pages a.head sound r c.write_home.ensures.journal.homes c.write_home.ensures.journal.note refl refl refl refl
    (c.write_home.ensures.journal.serves.honest.0 s0.honest, k.honest.1) k.mirrors (Begins-refl h) (headed_of a h k) l
    (down_or (needs_recovery (journal_of (pool_of c.write_home.new.tx))) _ (λ usable. (c.write_home.ensures.shown start k.pages s0 usable).1.maps))

pub returns-in_err-write_home-clause-crash : goal.returns-in_err-write_home-clause-crash
returns-in_err-write_home-clause-crash g c h k =
    let a = c.args.self.now in
    let sound = g.met.E.EraseDisk.sound in
    let start : Start = start_of a h k in
    let s0 = c.in_ok-begin.ensures.shown k.honest.0 k.pages k.maps in
    let homes0 = ap home_pages c.begin.ensures.same in
    let r : Ready a h k c.begin.new.tx k.pages = record { shows = s0; homes = homes0 } in
    let homes = home_pages (journal_of (pool_of c.begin.new.tx)) in
    let l = leaves_weaker _ _ (λ f. Recovers homes start.note f start.pages) (RecoversEither homes start.note start.pages k.pages) (λ f means. inl means) (c.write_home.ensures.crash start k.pages s0) in
    written a _ h h k c.begin.new.tx k.pages a.head sound r (grows_none (once_state a)) (headed_of a h k) l

-- ---- how often the device failed

pub returns-in_err-begin-clause-device : goal.returns-in_err-begin-clause-device
returns-in_err-begin-clause-device g c = keeps_reported _ _ _ _ ⊥ _ (λ reported. search (rules, reported)) (λ f. absurd f) (keeps_same g.E.EraseDisk (journal_of (pool_of c.args.self.now.tx)) (journal_of (pool_of c.begin.new.tx)) c.begin.ensures.same)

pub returns-in_err-write_home-clause-device : goal.returns-in_err-write_home-clause-device
returns-in_err-write_home-clause-device g c =
    let r = c.from_residual-in_err-write_home.result in
    let is = c.from_residual-in_err-write_home.ensures.1 in
    keeps_then _ _ _ _ _ _ _ (keeps_same g.E.EraseDisk (journal_of (pool_of c.args.self.now.tx)) (journal_of (pool_of c.begin.new.tx)) c.begin.ensures.same)
    (keeps_reported _ _ _ _ _ _ (λ reported. ap (λ e. Err e) (flush_fault c.in_err-write_home.field-0.0 (reported_as r _ flushes.Fault is reported))) (λ f. let same : c.in_err-write_home.field-0.0 ≡ uses.Fault = cc f in reported_of r _ is ∙ ap (λ e. Err (flush_of_use e)) same)
    (keeps_served g.E.EraseDisk _ _ _ c.in_err-write_home.ensures.journal.serves))

pub returns-clause-device : goal.returns-clause-device
returns-clause-device g c =
    keeps_then _ _ _ _ _ _ _ (keeps_same g.E.EraseDisk (journal_of (pool_of c.args.self.now.tx)) (journal_of (pool_of c.begin.new.tx)) c.begin.ensures.same)
    (keeps_reported _ _ _ _ _ _ (λ reported. absurd cc) (λ f. absurd cc) (keeps_served g.E.EraseDisk _ _ _ c.in_ok-write_home.ensures.journal.serves))
