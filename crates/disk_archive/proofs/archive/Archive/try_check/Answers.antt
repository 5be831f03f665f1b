use Rattle.std.proofs.Common.{rules, ◌≡◌, ◌⊎◌, ℕ, List, Option, refl, sym, ◌∙◌, ap, subst, true≢false, Err, IfOk, IsOk, IsErr}
use Rattle.disk_models.specs.Once.{OnceState, Grows}
use Rattle.once_store.specs.Readers.{reader_disk}
use Rattle.once_store.specs.Shelves.{pen_of}
use Rattle.page_journal.specs.Journal.{home_pages, note_of}
use Rattle.buffer_pool.specs.Pool.{journal_of}
use Rattle.page_tx.specs.Start.{Start}
use Rattle.page_tx.specs.Tx.{pool_of}
use Rattle.route_meaning.specs.History.{applied}
use Rattle.route_history.specs.Stamps.{stamp_of}
use Rattle.archive_pages.specs.Places.{tree_low}
use Rattle.disk_archive.specs.declared.check_error.CheckError.TheVariants as checks
use Rattle.disk_archive.specs.Archives.{erase_state, once_of, once_state}
use Rattle.disk_archive.specs.Checks.{IsAllRead, IsBadBlock, IsBadPage, in_use_of}
use Rattle.disk_archive.specs.Rings.{IsBadRing}
use Rattle.disk_archive.specs.inner.Asking.{HasTree}
use Rattle.disk_archive.proofs.Calling.{Ready, start_of, grows_none, unwritten, kept}
use Rattle.disk_archive.proofs.Asking.{rises_applied, located_known, reads_well}
use Rattle.disk_archive.proofs.Counts.{at_disk}
use Rattle.disk_archive.proofs.Faults.{keeps_same, one_reported}
use Rattle.disk_archive.proofs.Waiting.{rings_read}
use Rattle.disk_archive.proofs.ReadFaults.{check_memory_no_fault, check_need_no_fault, fails_none, fails_pen, fails_read, look_stays, read_then}
use Rattle.disk_archive.proofs.archive.Archive.try_check.Goals as goal

pub returns-in_err-begin-clause-represents : goal.returns-in_err-begin-clause-represents
returns-in_err-begin-clause-represents g c h k =
    absurd (true≢false (sym c.in_err-begin.ensures.down ∙ k.maps.keeps.usable))

pub returns-in_err-begin-clause-crash : goal.returns-in_err-begin-clause-crash
returns-in_err-begin-clause-crash g c h k =
    absurd (true≢false (sym c.in_err-begin.ensures.down ∙ k.maps.keeps.usable))

pub returns-in_err-reader-clause-represents : goal.returns-in_err-reader-clause-represents
returns-in_err-reader-clause-represents g c h k =
    let a = c.args.self.now in
    let start : Start = start_of a h k in
    let s0 = c.in_ok-begin.ensures.shown k.honest.0 k.pages k.maps in
    let homes0 = ap home_pages c.begin.ensures.same in
    let r : Ready a h k c.begin.new.tx k.pages = record { shows = s0; homes = homes0 } in
    kept a _ h k k.pages r refl refl refl refl (s0.honest, k.honest.1) k.mirrors

pub returns-in_err-reader-clause-crash : goal.returns-in_err-reader-clause-crash
returns-in_err-reader-clause-crash g c h k =
    let a = c.args.self.now in
    let start : Start = start_of a h k in
    let s0 = c.in_ok-begin.ensures.shown k.honest.0 k.pages k.maps in
    let homes0 = ap home_pages c.begin.ensures.same in
    let r : Ready a h k c.begin.new.tx k.pages = record { shows = s0; homes = homes0 } in
    unwritten a _ h h k k.pages g.met.E.EraseDisk.sound r (grows_none (once_state a))

pub returns-in_err-seen-clause-represents : goal.returns-in_err-seen-clause-represents
returns-in_err-seen-clause-represents g c h k =
    let a = c.args.self.now in
    let start : Start = start_of a h k in
    let s0 = c.in_ok-begin.ensures.shown k.honest.0 k.pages k.maps in
    let homes0 = ap home_pages c.begin.ensures.same in
    let r : Ready a h k c.begin.new.tx k.pages = record { shows = s0; homes = homes0 } in
    let pen = subst (λ d. g.O.OnceDisk.honest d (pen_of c.seen.new.self)) (sym c.seen.ensures.disk) (c.seen.ensures.honest.0 k.honest.1) in
    kept a _ h k k.pages r c.seen.ensures.disk (c.seen.ensures.same k.honest.1) refl refl (s0.honest, pen) k.mirrors

pub returns-in_err-seen-clause-crash : goal.returns-in_err-seen-clause-crash
returns-in_err-seen-clause-crash g c h k =
    let a = c.args.self.now in
    let start : Start = start_of a h k in
    let s0 = c.in_ok-begin.ensures.shown k.honest.0 k.pages k.maps in
    let homes0 = ap home_pages c.begin.ensures.same in
    let r : Ready a h k c.begin.new.tx k.pages = record { shows = s0; homes = homes0 } in
    unwritten a _ h h k k.pages g.met.E.EraseDisk.sound r (subst (λ (o : OnceState). Grows (once_state a) o) (sym (c.seen.ensures.same k.honest.1)) (grows_none (once_state a)))

pub returns-clause-represents : goal.returns-clause-represents
returns-clause-represents g c h k =
    let a = c.args.self.now in
    let start : Start = start_of a h k in
    let s0 = c.in_ok-begin.ensures.shown k.honest.0 k.pages k.maps in
    let homes0 = ap home_pages c.begin.ensures.same in
    let s1 = c.count_by.ensures.reads start k.pages s0 in
    let r : Ready a h k c.count_by.new.pages k.pages = record { shows = s1; homes = c.count_by.ensures.homes ∙ homes0 } in
    let pen = subst (λ d. g.O.OnceDisk.honest d (pen_of c.seen.new.self)) (sym c.seen.ensures.disk) (c.seen.ensures.honest.0 k.honest.1) in
    kept a _ h k k.pages r c.seen.ensures.disk (c.seen.ensures.same k.honest.1) refl refl (s1.honest, pen) k.mirrors

pub returns-clause-crash : goal.returns-clause-crash
returns-clause-crash g c h k =
    let a = c.args.self.now in
    let start : Start = start_of a h k in
    let s0 = c.in_ok-begin.ensures.shown k.honest.0 k.pages k.maps in
    let homes0 = ap home_pages c.begin.ensures.same in
    let s1 = c.count_by.ensures.reads start k.pages s0 in
    let r : Ready a h k c.count_by.new.pages k.pages = record { shows = s1; homes = c.count_by.ensures.homes ∙ homes0 } in
    unwritten a _ h h k k.pages g.met.E.EraseDisk.sound r (subst (λ (o : OnceState). Grows (once_state a) o) (sym (c.seen.ensures.same k.honest.1)) (grows_none (once_state a)))

pub returns-clause-finds : goal.returns-clause-finds
returns-clause-finds g c h k =
    let a = c.args.self.now in
    let start : Start = start_of a h k in
    let s0 = c.in_ok-begin.ensures.shown k.honest.0 k.pages k.maps in
    let tree : HasTree _ c.begin.new.tx g.O.OnceDisk c.in_ok-reader.reader c.in_ok-seen.seen a.head.root a.head.fresh a.head.block (applied h) = record {
      start = start;
      shown = k.pages;
      shows = s0;
      well = reads_well g.O.OnceDisk c.in_ok-reader.reader c.in_ok-seen.seen (once_of a) c.in_ok-reader.ensures.disk (c.in_ok-seen.ensures.seen k.honest.1) c.in_ok-reader.ensures.none;
      low = tree_low a.settings;
      stamp = stamp_of a.head.last a.head.applied;
      versions = k.head_represents.versions;
      located = located_known g.O.OnceDisk c.in_ok-reader.reader c.in_ok-seen.seen (once_of a) (once_state a) k.pages (tree_low a.settings) a.head.root a.head.fresh a.head.block (stamp_of a.head.last a.head.applied) k.head_represents.versions c.in_ok-reader.ensures.disk (c.in_ok-seen.ensures.known k.honest.1) k.head_represents.tree;
      timely = rises_applied h;
      kept = k.head_represents.kept;
    } in
    c.count_by.ensures.finds (applied h) tree (rings_read a h k) k.head_represents.numbered k.valid.applied

pub returns-clause-read : goal.returns-clause-read
returns-clause-read g c honest pages maps =
    let a = c.args.self.now in
    let start : Start = record { note = note_of (journal_of (pool_of a.tx)); pages = pages; clock = (erase_state a).clock } in
    let s0 = c.in_ok-begin.ensures.shown honest.0 pages maps in
    let well = reads_well g.O.OnceDisk c.in_ok-reader.reader c.in_ok-seen.seen (once_of a) c.in_ok-reader.ensures.disk (c.in_ok-seen.ensures.seen honest.1) c.in_ok-reader.ensures.none in
    let known = g.O.OnceDisk.known c.in_ok-seen.seen in
    let blocks = g.O.OnceDisk.block_count (reader_disk c.in_ok-reader.reader) in
    let read = subst (λ (b : ℕ). IfOk c.count_by.result (IsAllRead pages known blocks a.head.root (record { recorded_on = 0; pages = a.head.fresh; blocks = a.head.block; burnt = b }))) c.next-burnt.ensures.next (c.count_by.ensures.read start pages s0 well) in
    at_disk g.O.OnceDisk c.in_ok-reader.reader c.in_ok-seen.seen (once_of a) (once_state a).settled (λ (f : ℕ → Option (List ℕ)) (n : ℕ). IfOk c.count_by.result (IsAllRead pages f n a.head.root (in_use_of a)))
    c.in_ok-reader.ensures.disk (c.in_ok-seen.ensures.known honest.1) read

pub returns-clause-bad : goal.returns-clause-bad
returns-clause-bad g c honest pages maps page e =
    let a = c.args.self.now in
    let start : Start = record { note = note_of (journal_of (pool_of a.tx)); pages = pages; clock = (erase_state a).clock } in
    let s0 = c.in_ok-begin.ensures.shown honest.0 pages maps in
    let well = reads_well g.O.OnceDisk c.in_ok-reader.reader c.in_ok-seen.seen (once_of a) c.in_ok-reader.ensures.disk (c.in_ok-seen.ensures.seen honest.1) c.in_ok-reader.ensures.none in
    let known = g.O.OnceDisk.known c.in_ok-seen.seen in
    let blocks = g.O.OnceDisk.block_count (reader_disk c.in_ok-reader.reader) in
    let bad = subst (λ (b : ℕ). IsBadPage pages known blocks a.head.root a.head.applied (record { recorded_on = 0; pages = a.head.fresh; blocks = a.head.block; burnt = b }) page ⊎ IsBadRing pages a.settings a.head page) c.next-burnt.ensures.next (c.count_by.ensures.bad start pages s0 well page e) in
    at_disk g.O.OnceDisk c.in_ok-reader.reader c.in_ok-seen.seen (once_of a) (once_state a).settled (λ (f : ℕ → Option (List ℕ)) (n : ℕ). IsBadPage pages f n a.head.root a.head.applied (in_use_of a) page ⊎ IsBadRing pages a.settings a.head page)
    c.in_ok-reader.ensures.disk (c.in_ok-seen.ensures.known honest.1) bad

pub returns-clause-rings : goal.returns-clause-rings
returns-clause-rings g c honest pages maps =
    let a = c.args.self.now in
    let start : Start = record { note = note_of (journal_of (pool_of a.tx)); pages = pages; clock = (erase_state a).clock } in
    c.count_by.ensures.rings start pages (c.in_ok-begin.ensures.shown honest.0 pages maps)

pub returns-clause-damaged : goal.returns-clause-damaged
returns-clause-damaged g c honest pages maps block e =
    let a = c.args.self.now in
    let start : Start = record { note = note_of (journal_of (pool_of a.tx)); pages = pages; clock = (erase_state a).clock } in
    let s0 = c.in_ok-begin.ensures.shown honest.0 pages maps in
    let well = reads_well g.O.OnceDisk c.in_ok-reader.reader c.in_ok-seen.seen (once_of a) c.in_ok-reader.ensures.disk (c.in_ok-seen.ensures.seen honest.1) c.in_ok-reader.ensures.none in
    at_disk g.O.OnceDisk c.in_ok-reader.reader c.in_ok-seen.seen (once_of a) (once_state a).settled (λ (f : ℕ → Option (List ℕ)) (n : ℕ). IsBadBlock pages f n a.head.root block)
    c.in_ok-reader.ensures.disk (c.in_ok-seen.ensures.known honest.1) (c.count_by.ensures.damaged start pages s0 well block e)

-- ---- nothing is burnt

pub returns-in_err-seen-clause-blocks : goal.returns-in_err-seen-clause-blocks
returns-in_err-seen-clause-blocks g c honest = c.seen.ensures.same honest.1

pub returns-clause-blocks : goal.returns-clause-blocks
returns-clause-blocks g c honest = c.seen.ensures.same honest.1

-- ---- failures

pub returns-in_err-begin-clause-failed : goal.returns-in_err-begin-clause-failed
returns-in_err-begin-clause-failed g c =
    let same = (keeps_same g.E.EraseDisk _ _ c.begin.ensures.same).quiet (λ f. f) in
    let d : c.from_residual.result ≡ Err checks.NeedsRecovery = search rules in
    fails_none _ _ _ _ same refl (λ reported. check_need_no_fault (one_reported c.from_residual.result checks.NeedsRecovery checks.Fault d reported))

pub returns-in_err-reader-clause-failed : goal.returns-in_err-reader-clause-failed
returns-in_err-reader-clause-failed g c =
    let same = (keeps_same g.E.EraseDisk _ _ c.begin.ensures.same).quiet (λ f. f) in
    let d : c.from_residual-in_err-reader.result ≡ Err checks.OutOfMemory = search rules in
    fails_none _ _ _ _ same refl (λ reported. check_memory_no_fault (one_reported c.from_residual-in_err-reader.result checks.OutOfMemory checks.Fault d reported))

pub returns-in_err-seen-clause-failed : goal.returns-in_err-seen-clause-failed
returns-in_err-seen-clause-failed g c =
    let same = (keeps_same g.E.EraseDisk _ _ c.begin.ensures.same).quiet (λ f. f) in
    let failed : IsErr c.seen.result = search rules in
    let d : c.from_residual-in_err-seen.result ≡ Err checks.Fault = search rules in
    fails_pen _ _ _ _ same (c.seen.ensures.counts.counted failed) d

pub returns-clause-failed : goal.returns-clause-failed
returns-clause-failed g c =
    let same = (keeps_same g.E.EraseDisk _ _ c.begin.ensures.same).quiet (λ f. f) in
    let looked : IsOk c.seen.result = search rules in
    fails_read _ _ _ c.in_ok-seen.seen c.count_by.new.seen _ _ (λ reported. reported) (λ failed. failed)
    (c.seen.ensures.counts.quiet looked) c.in_ok-seen.ensures.fresh (λ honest _. look_stays g.O.OnceDisk _ _ c.in_ok-seen.seen c.count_by.new.seen c.in_ok-reader.ensures.disk (c.in_ok-seen.ensures.seen honest.1) c.count_by.ensures.look) (read_then _ _ _ _ _ _ same c.count_by.ensures.failed)

-- ---- nothing is written

pub returns-in_err-begin-clause-still : goal.returns-in_err-begin-clause-still
returns-in_err-begin-clause-still g c h k =
    absurd (true≢false (sym c.in_err-begin.ensures.down ∙ k.maps.keeps.usable))

pub returns-in_err-reader-clause-still : goal.returns-in_err-reader-clause-still
returns-in_err-reader-clause-still g c h k =
    let a = c.args.self.now in
    let start : Start = start_of a h k in
    let s0 = c.in_ok-begin.ensures.shown k.honest.0 k.pages k.maps in
    let homes0 = ap home_pages c.begin.ensures.same in
    let r : Ready a h k c.begin.new.tx k.pages = record { shows = s0; homes = homes0 } in
    r.shows.clocked

pub returns-in_err-seen-clause-still : goal.returns-in_err-seen-clause-still
returns-in_err-seen-clause-still g c h k =
    let a = c.args.self.now in
    let start : Start = start_of a h k in
    let s0 = c.in_ok-begin.ensures.shown k.honest.0 k.pages k.maps in
    let homes0 = ap home_pages c.begin.ensures.same in
    let r : Ready a h k c.begin.new.tx k.pages = record { shows = s0; homes = homes0 } in
    r.shows.clocked

pub returns-clause-still : goal.returns-clause-still
returns-clause-still g c h k =
    let a = c.args.self.now in
    let start : Start = start_of a h k in
    let s0 = c.in_ok-begin.ensures.shown k.honest.0 k.pages k.maps in
    let homes0 = ap home_pages c.begin.ensures.same in
    let s1 = c.count_by.ensures.reads start k.pages s0 in
    let r : Ready a h k c.count_by.new.pages k.pages = record { shows = s1; homes = c.count_by.ensures.homes ∙ homes0 } in
    r.shows.clocked
