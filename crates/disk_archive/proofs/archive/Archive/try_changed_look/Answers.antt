use Rattle.std.proofs.Common.{rules, ◌≡◌, ◌<◌, ◌≤◌, ℕ, refl, sym, ◌∙◌, ap, subst, arith, true≢false, Ok, Err, IsOk, IsErr}
use Rattle.disk_models.specs.Once.{OnceState, Grows}
use Rattle.once_store.specs.Shelves.{pen_of}
use Rattle.page_journal.specs.Journal.{home_pages}
use Rattle.page_tx.specs.Start.{Start}
use Rattle.route_meaning.specs.declared.question.ChangedQuestion.{ChangedQuestion}
use Rattle.route_meaning.specs.History.{applied, settled}
use Rattle.route_meaning.proofs.api.Beginning.{Begins-refl}
use Rattle.route_history.specs.Changes.{HasChangedSo}
use Rattle.disk_archive.specs.Cursors.{IsWalked}
use Rattle.route_history.specs.Stamps.{stamp_of}
use Rattle.archive_pages.specs.Places.{tree_low}
use Rattle.disk_archive.specs.declared.ask_error.AskError.TheVariants as asks
use Rattle.disk_archive.specs.Archives.{once_of, once_state}
use Rattle.disk_archive.specs.inner.Asking.{HasTree}
use Rattle.disk_archive.proofs.Mirroring.{mirror_settled}
use Rattle.disk_archive.proofs.Calling.{Ready, start_of, grows_none, unwritten, kept}
use Rattle.disk_archive.proofs.Asking.{if_none, rises_applied, located_known, reads_kept, kept_reads, above_reported}
use Rattle.disk_archive.proofs.Faults.{above_no_fault, done_not_reported, keeps_same, need_no_fault, one_reported}
use Rattle.disk_archive.proofs.ReadFaults.{fails_none, fails_pen, fails_read, read_then}
use Rattle.disk_archive.proofs.archive.Archive.try_changed_look.Goals as goal

pub returns-in_err-begin-clause-represents : goal.returns-in_err-begin-clause-represents
returns-in_err-begin-clause-represents g c h k =
    absurd (true≢false (sym c.in_err-begin.ensures.down ∙ k.maps.keeps.usable))

pub returns-in_err-begin-clause-crash : goal.returns-in_err-begin-clause-crash
returns-in_err-begin-clause-crash g c h k =
    absurd (true≢false (sym c.in_err-begin.ensures.down ∙ k.maps.keeps.usable))

pub returns-in_err-begin-clause-watermark : goal.returns-in_err-begin-clause-watermark
returns-in_err-begin-clause-watermark g c h k above =
    absurd (true≢false (sym c.in_err-begin.ensures.down ∙ k.maps.keeps.usable))

pub returns-in_err-check_moment-clause-represents : goal.returns-in_err-check_moment-clause-represents
returns-in_err-check_moment-clause-represents g c h k =
    let a = c.args.self.now in
    let start : Start = start_of a h k in
    let s0 = c.in_ok-begin.ensures.shown k.honest.0 k.pages k.maps in
    let homes0 = ap home_pages c.begin.ensures.same in
    let r : Ready a h k c.begin.new.tx k.pages = record { shows = s0; homes = homes0 } in
    kept c.args.self.now _ h k k.pages r refl refl refl refl (s0.honest, k.honest.1) k.mirrors

pub returns-in_err-check_moment-clause-crash : goal.returns-in_err-check_moment-clause-crash
returns-in_err-check_moment-clause-crash g c h k =
    let a = c.args.self.now in
    let start : Start = start_of a h k in
    let s0 = c.in_ok-begin.ensures.shown k.honest.0 k.pages k.maps in
    let homes0 = ap home_pages c.begin.ensures.same in
    let r : Ready a h k c.begin.new.tx k.pages = record { shows = s0; homes = homes0 } in
    unwritten a _ h h k k.pages g.met.E.EraseDisk.sound r (grows_none (once_state a))

pub returns-in_err-seen-clause-represents : goal.returns-in_err-seen-clause-represents
returns-in_err-seen-clause-represents g c h k =
    let a = c.args.self.now in
    let start : Start = start_of a h k in
    let s0 = c.in_ok-begin.ensures.shown k.honest.0 k.pages k.maps in
    let homes0 = ap home_pages c.begin.ensures.same in
    let r : Ready a h k c.begin.new.tx k.pages = record { shows = s0; homes = homes0 } in
    let pen = subst (λ d. g.O.OnceDisk.honest d (pen_of c.seen.new.self)) (sym c.seen.ensures.disk) (c.seen.ensures.honest.0 k.honest.1) in
    kept a _ h k k.pages r c.seen.ensures.disk (c.seen.ensures.same k.honest.1) refl refl (s0.honest, pen) k.mirrors

pub returns-in_err-seen-clause-crash : goal.returns-in_err-seen-clause-crash
returns-in_err-seen-clause-crash g c h k =
    let a = c.args.self.now in
    let start : Start = start_of a h k in
    let s0 = c.in_ok-begin.ensures.shown k.honest.0 k.pages k.maps in
    let homes0 = ap home_pages c.begin.ensures.same in
    let r : Ready a h k c.begin.new.tx k.pages = record { shows = s0; homes = homes0 } in
    unwritten a _ h h k k.pages g.met.E.EraseDisk.sound r (subst (λ (o : OnceState). Grows (once_state a) o) (sym (c.seen.ensures.same k.honest.1)) (grows_none (once_state a)))

pub returns-in_err-found-clause-represents : goal.returns-in_err-found-clause-represents
returns-in_err-found-clause-represents g c h k =
    let a = c.args.self.now in
    let start : Start = start_of a h k in
    let s0 = c.in_ok-begin.ensures.shown k.honest.0 k.pages k.maps in
    let homes0 = ap home_pages c.begin.ensures.same in
    let s1 = c.look_by.ensures.reads start k.pages s0 in
    let r : Ready a h k c.look_by.new.pages k.pages = record { shows = s1; homes = c.look_by.ensures.homes ∙ homes0 } in
    let pen = subst (λ d. g.O.OnceDisk.honest d (pen_of c.seen.new.self)) (sym c.seen.ensures.disk) (c.seen.ensures.honest.0 k.honest.1) in
    kept a _ h k k.pages r c.seen.ensures.disk (c.seen.ensures.same k.honest.1) refl refl (s1.honest, pen) k.mirrors

pub returns-in_err-found-clause-crash : goal.returns-in_err-found-clause-crash
returns-in_err-found-clause-crash g c h k =
    let a = c.args.self.now in
    let start : Start = start_of a h k in
    let s0 = c.in_ok-begin.ensures.shown k.honest.0 k.pages k.maps in
    let homes0 = ap home_pages c.begin.ensures.same in
    let s1 = c.look_by.ensures.reads start k.pages s0 in
    let r : Ready a h k c.look_by.new.pages k.pages = record { shows = s1; homes = c.look_by.ensures.homes ∙ homes0 } in
    let pen = subst (λ d. g.O.OnceDisk.honest d (pen_of c.seen.new.self)) (sym c.seen.ensures.disk) (c.seen.ensures.honest.0 k.honest.1) in
    unwritten a _ h h k k.pages g.met.E.EraseDisk.sound r (subst (λ (o : OnceState). Grows (once_state a) o) (sym (c.seen.ensures.same k.honest.1)) (grows_none (once_state a)))

pub returns-clause-represents : goal.returns-clause-represents
returns-clause-represents g c h k =
    let a = c.args.self.now in
    let start : Start = start_of a h k in
    let s0 = c.in_ok-begin.ensures.shown k.honest.0 k.pages k.maps in
    let homes0 = ap home_pages c.begin.ensures.same in
    let s1 = c.look_by.ensures.reads start k.pages s0 in
    let r : Ready a h k c.look_by.new.pages k.pages = record { shows = s1; homes = c.look_by.ensures.homes ∙ homes0 } in
    let pen = subst (λ d. g.O.OnceDisk.honest d (pen_of c.seen.new.self)) (sym c.seen.ensures.disk) (c.seen.ensures.honest.0 k.honest.1) in
    kept a _ h k k.pages r c.seen.ensures.disk (c.seen.ensures.same k.honest.1) refl refl (s1.honest, pen) k.mirrors

pub returns-clause-crash : goal.returns-clause-crash
returns-clause-crash g c h k =
    let a = c.args.self.now in
    let start : Start = start_of a h k in
    let s0 = c.in_ok-begin.ensures.shown k.honest.0 k.pages k.maps in
    let homes0 = ap home_pages c.begin.ensures.same in
    let s1 = c.look_by.ensures.reads start k.pages s0 in
    let r : Ready a h k c.look_by.new.pages k.pages = record { shows = s1; homes = c.look_by.ensures.homes ∙ homes0 } in
    let pen = subst (λ d. g.O.OnceDisk.honest d (pen_of c.seen.new.self)) (sym c.seen.ensures.disk) (c.seen.ensures.honest.0 k.honest.1) in
    unwritten a _ h h k k.pages g.met.E.EraseDisk.sound r (subst (λ (o : OnceState). Grows (once_state a) o) (sym (c.seen.ensures.same k.honest.1)) (grows_none (once_state a)))

pub returns-in_err-found-clause-blames : goal.returns-in_err-found-clause-blames
returns-in_err-found-clause-blames g c h k from =
    let a = c.args.self.now in
    let start : Start = start_of a h k in
    let s0 = c.in_ok-begin.ensures.shown k.honest.0 k.pages k.maps in
    let tree : HasTree _ c.begin.new.tx g.O.OnceDisk c.args.reader.now c.in_ok-seen.seen a.head.root a.head.fresh a.head.block (applied h) = record {
      start = start;
      shown = k.pages;
      shows = s0;
      well = reads_kept g.O.OnceDisk c.args.reader.now c.in_ok-seen.seen (once_of a) (once_state a) from.disk (c.in_ok-seen.ensures.seen k.honest.1) (c.in_ok-seen.ensures.known k.honest.1) from.kept;
      low = tree_low a.settings;
      stamp = stamp_of a.head.last a.head.applied;
      versions = k.head_represents.versions;
      located = located_known g.O.OnceDisk c.args.reader.now c.in_ok-seen.seen (once_of a) (once_state a) k.pages (tree_low a.settings) a.head.root a.head.fresh a.head.block (stamp_of a.head.last a.head.applied) k.head_represents.versions from.disk (c.in_ok-seen.ensures.known k.honest.1) k.head_represents.tree;
      timely = rises_applied h;
      kept = k.head_represents.kept;
    } in
    let b = c.look_by.ensures.blames (applied h) tree in
    search (rules, b)

pub returns-clause-walked : goal.returns-clause-walked
returns-clause-walked g c h k from walked =
    let a = c.args.self.now in
    let start : Start = start_of a h k in
    let s0 = c.in_ok-begin.ensures.shown k.honest.0 k.pages k.maps in
    let tree : HasTree _ c.begin.new.tx g.O.OnceDisk c.args.reader.now c.in_ok-seen.seen a.head.root a.head.fresh a.head.block (applied h) = record {
      start = start;
      shown = k.pages;
      shows = s0;
      well = reads_kept g.O.OnceDisk c.args.reader.now c.in_ok-seen.seen (once_of a) (once_state a) from.disk (c.in_ok-seen.ensures.seen k.honest.1) (c.in_ok-seen.ensures.known k.honest.1) from.kept;
      low = tree_low a.settings;
      stamp = stamp_of a.head.last a.head.applied;
      versions = k.head_represents.versions;
      located = located_known g.O.OnceDisk c.args.reader.now c.in_ok-seen.seen (once_of a) (once_state a) k.pages (tree_low a.settings) a.head.root a.head.fresh a.head.block (stamp_of a.head.last a.head.applied) k.head_represents.versions from.disk (c.in_ok-seen.ensures.known k.honest.1) k.head_represents.tree;
      timely = rises_applied h;
      kept = k.head_represents.kept;
    } in
    let e = mirror_settled a.sequencer h k.mirrors in
    let below : c.look_by.new.cursor.question.to < settled h = (let lt = c.in_ok-check_moment.ensures.below in subst (λ (q : ChangedQuestion). q.to < settled h) (sym c.look_by.ensures.question) (omega (arith, lt, e))) in
    if_none c.in_ok-found.found (HasChangedSo (applied h) c.look_by.new.cursor) (IsWalked c.look_by.new.cursor h)
    (λ now later right begins all kept. c.gathered_follows_histories.ensures.changed h later c.look_by.new.cursor k.head_represents.right right begins below now)
    (c.in_ok-found.ensures.changed (applied h) tree (walked h k.head_represents.right (Begins-refl h) k.head_represents.versions k.head_represents.kept))

pub returns-clause-answer : goal.returns-clause-answer
returns-clause-answer g c h k from walked =
    let a = c.args.self.now in
    let start : Start = start_of a h k in
    let s0 = c.in_ok-begin.ensures.shown k.honest.0 k.pages k.maps in
    let tree : HasTree _ c.begin.new.tx g.O.OnceDisk c.args.reader.now c.in_ok-seen.seen a.head.root a.head.fresh a.head.block (applied h) = record {
      start = start;
      shown = k.pages;
      shows = s0;
      well = reads_kept g.O.OnceDisk c.args.reader.now c.in_ok-seen.seen (once_of a) (once_state a) from.disk (c.in_ok-seen.ensures.seen k.honest.1) (c.in_ok-seen.ensures.known k.honest.1) from.kept;
      low = tree_low a.settings;
      stamp = stamp_of a.head.last a.head.applied;
      versions = k.head_represents.versions;
      located = located_known g.O.OnceDisk c.args.reader.now c.in_ok-seen.seen (once_of a) (once_state a) k.pages (tree_low a.settings) a.head.root a.head.fresh a.head.block (stamp_of a.head.last a.head.applied) k.head_represents.versions from.disk (c.in_ok-seen.ensures.known k.honest.1) k.head_represents.tree;
      timely = rises_applied h;
      kept = k.head_represents.kept;
    } in
    c.in_ok-found.ensures.answer (applied h) tree (walked h k.head_represents.right (Begins-refl h) k.head_represents.versions k.head_represents.kept)

pub returns-clause-below : goal.returns-clause-below
returns-clause-below g c h k =
    let e = mirror_settled c.args.self.now.sequencer h k.mirrors in
    let lt = c.in_ok-check_moment.ensures.below in
    omega (arith, lt, e)

pub returns-in_err-check_moment-clause-above : goal.returns-in_err-check_moment-clause-above
returns-in_err-check_moment-clause-above g c h k mark reported =
    let e = mirror_settled c.args.self.now.sequencer h k.mirrors in
    let was : c.check_moment.result ≡ Err (asks.AboveWatermark mark) = search (rules, reported) in
    let f = above_reported c.check_moment.result _ (c.args.cursor.now.question.to) mark c.check_moment.ensures.above was in
    (f.0 ∙ e, subst (λ (n : ℕ). n ≤ c.args.cursor.now.question.to) e f.1)

pub returns-in_err-check_moment-clause-watermark : goal.returns-in_err-check_moment-clause-watermark
returns-in_err-check_moment-clause-watermark g c h k above =
    let e = mirror_settled c.args.self.now.sequencer h k.mirrors in
    let f = c.in_err-check_moment.ensures.above in
    let is : c.in_err-check_moment.field-0.0 ≡ asks.AboveWatermark (settled h) = f.0 ∙ ap (λ (n : ℕ). asks.AboveWatermark n) e in
    search (rules, is)

pub returns-in_err-seen-clause-watermark : goal.returns-in_err-seen-clause-watermark
returns-in_err-seen-clause-watermark g c h k above =
    let e = mirror_settled c.args.self.now.sequencer h k.mirrors in
    let lt = c.in_ok-check_moment.ensures.below in
    absurd (omega (arith, lt, e, above))

pub returns-in_err-found-clause-watermark : goal.returns-in_err-found-clause-watermark
returns-in_err-found-clause-watermark g c h k above =
    let e = mirror_settled c.args.self.now.sequencer h k.mirrors in
    let lt = c.in_ok-check_moment.ensures.below in
    absurd (omega (arith, lt, e, above))

pub returns-clause-watermark : goal.returns-clause-watermark
returns-clause-watermark g c h k above =
    let e = mirror_settled c.args.self.now.sequencer h k.mirrors in
    let lt = c.in_ok-check_moment.ensures.below in
    absurd (omega (arith, lt, e, above))

-- ---- nothing is burnt

pub returns-in_err-seen-clause-blocks : goal.returns-in_err-seen-clause-blocks
returns-in_err-seen-clause-blocks g c honest = c.seen.ensures.same honest.1

pub returns-in_err-found-clause-blocks : goal.returns-in_err-found-clause-blocks
returns-in_err-found-clause-blocks g c honest = c.seen.ensures.same honest.1

pub returns-clause-blocks : goal.returns-clause-blocks
returns-clause-blocks g c honest = c.seen.ensures.same honest.1

-- ---- what the reader keeps then

pub returns-in_err-found-clause-reads : goal.returns-in_err-found-clause-reads
returns-in_err-found-clause-reads g c h k from =
    let a = c.args.self.now in
    let start : Start = start_of a h k in
    let s0 = c.in_ok-begin.ensures.shown k.honest.0 k.pages k.maps in
    let tree : HasTree _ c.begin.new.tx g.O.OnceDisk c.args.reader.now c.in_ok-seen.seen a.head.root a.head.fresh a.head.block (applied h) = record {
      start = start;
      shown = k.pages;
      shows = s0;
      well = reads_kept g.O.OnceDisk c.args.reader.now c.in_ok-seen.seen (once_of a) (once_state a) from.disk (c.in_ok-seen.ensures.seen k.honest.1) (c.in_ok-seen.ensures.known k.honest.1) from.kept;
      low = tree_low a.settings;
      stamp = stamp_of a.head.last a.head.applied;
      versions = k.head_represents.versions;
      located = located_known g.O.OnceDisk c.args.reader.now c.in_ok-seen.seen (once_of a) (once_state a) k.pages (tree_low a.settings) a.head.root a.head.fresh a.head.block (stamp_of a.head.last a.head.applied) k.head_represents.versions from.disk (c.in_ok-seen.ensures.known k.honest.1) k.head_represents.tree;
      timely = rises_applied h;
      kept = k.head_represents.kept;
    } in
    let well = c.look_by.ensures.keeps (applied h) tree in
    let known = c.look_by.ensures.known tree.well.honest ∙ c.in_ok-seen.ensures.known k.honest.1 ∙ ap (λ (o : OnceState). o.settled) (sym (c.seen.ensures.same k.honest.1)) in
    record { disk = c.look_by.ensures.disk ∙ from.disk ∙ sym c.seen.ensures.disk; kept = kept_reads g.O.OnceDisk c.look_by.new.reader c.look_by.new.seen (g.O.OnceDisk.model (pen_of c.seen.new.self)) well known }

pub returns-clause-reads : goal.returns-clause-reads
returns-clause-reads g c h k from =
    let a = c.args.self.now in
    let start : Start = start_of a h k in
    let s0 = c.in_ok-begin.ensures.shown k.honest.0 k.pages k.maps in
    let tree : HasTree _ c.begin.new.tx g.O.OnceDisk c.args.reader.now c.in_ok-seen.seen a.head.root a.head.fresh a.head.block (applied h) = record {
      start = start;
      shown = k.pages;
      shows = s0;
      well = reads_kept g.O.OnceDisk c.args.reader.now c.in_ok-seen.seen (once_of a) (once_state a) from.disk (c.in_ok-seen.ensures.seen k.honest.1) (c.in_ok-seen.ensures.known k.honest.1) from.kept;
      low = tree_low a.settings;
      stamp = stamp_of a.head.last a.head.applied;
      versions = k.head_represents.versions;
      located = located_known g.O.OnceDisk c.args.reader.now c.in_ok-seen.seen (once_of a) (once_state a) k.pages (tree_low a.settings) a.head.root a.head.fresh a.head.block (stamp_of a.head.last a.head.applied) k.head_represents.versions from.disk (c.in_ok-seen.ensures.known k.honest.1) k.head_represents.tree;
      timely = rises_applied h;
      kept = k.head_represents.kept;
    } in
    let well = c.look_by.ensures.keeps (applied h) tree in
    let known = c.look_by.ensures.known tree.well.honest ∙ c.in_ok-seen.ensures.known k.honest.1 ∙ ap (λ (o : OnceState). o.settled) (sym (c.seen.ensures.same k.honest.1)) in
    record { disk = c.look_by.ensures.disk ∙ from.disk ∙ sym c.seen.ensures.disk; kept = kept_reads g.O.OnceDisk c.look_by.new.reader c.look_by.new.seen (g.O.OnceDisk.model (pen_of c.seen.new.self)) well known }

pub returns-in_err-begin-clause-reads : goal.returns-in_err-begin-clause-reads
returns-in_err-begin-clause-reads g c h k from =
    absurd (true≢false (sym c.in_err-begin.ensures.down ∙ k.maps.keeps.usable))

pub returns-in_err-check_moment-clause-reads : goal.returns-in_err-check_moment-clause-reads
returns-in_err-check_moment-clause-reads g c h k from = record { disk = from.disk; kept = from.kept }

pub returns-in_err-seen-clause-reads : goal.returns-in_err-seen-clause-reads
returns-in_err-seen-clause-reads g c h k from =
    record { disk = from.disk ∙ sym c.seen.ensures.disk; kept = λ n block kept. ap (λ (o : OnceState). o.settled n) (c.seen.ensures.same k.honest.1) ∙ from.kept n block kept }

-- ---- failures

pub returns-in_err-begin-clause-failed : goal.returns-in_err-begin-clause-failed
returns-in_err-begin-clause-failed g c =
    let same = (keeps_same g.E.EraseDisk _ _ c.begin.ensures.same).quiet (λ f. f) in
    let d : c.from_residual.result ≡ Err asks.NeedsRecovery = search rules in
    fails_none _ _ _ _ same refl (λ reported. need_no_fault (one_reported c.from_residual.result asks.NeedsRecovery asks.Fault d reported))

pub returns-in_err-check_moment-clause-failed : goal.returns-in_err-check_moment-clause-failed
returns-in_err-check_moment-clause-failed g c =
    let same = (keeps_same g.E.EraseDisk _ _ c.begin.ensures.same).quiet (λ f. f) in
    let above = c.in_err-check_moment.ensures.above in
    let e = c.in_err-check_moment.field-0.0 in
    let d : c.from_residual-in_err-check_moment.result ≡ Err e = search rules in
    fails_none _ _ _ _ same refl (λ reported. above_no_fault e _ above.0 (one_reported c.from_residual-in_err-check_moment.result e asks.Fault d reported))

pub returns-in_err-seen-clause-failed : goal.returns-in_err-seen-clause-failed
returns-in_err-seen-clause-failed g c =
    let same = (keeps_same g.E.EraseDisk _ _ c.begin.ensures.same).quiet (λ f. f) in
    let failed : IsErr c.seen.result = search rules in
    let d : c.from_residual-in_err-seen.result ≡ Err asks.Fault = search rules in
    fails_pen _ _ _ _ same (c.seen.ensures.counts.counted failed) d

pub returns-in_err-found-clause-failed : goal.returns-in_err-found-clause-failed
returns-in_err-found-clause-failed g c =
    let same = (keeps_same g.E.EraseDisk _ _ c.begin.ensures.same).quiet (λ f. f) in
    let looked : IsOk c.seen.result = search rules in
    let e = c.in_err-found.field-0.0 in
    let r : c.look_by.result ≡ Err e = search rules in
    let d : c.from_residual-in_err-found.result ≡ Err e = search rules in
    fails_read _ _ _ c.in_ok-seen.seen c.look_by.new.seen _ _
    (λ reported. r ∙ ap Err (one_reported c.from_residual-in_err-found.result e asks.Fault d reported))
    (λ failed. d ∙ ap Err (one_reported c.look_by.result e asks.Fault r failed))
    (c.seen.ensures.counts.quiet looked) c.in_ok-seen.ensures.fresh (λ honest same_disk. c.look_by.ensures.look (subst (λ d. g.O.OnceDisk.honest_seen d c.in_ok-seen.seen) (sym same_disk) (c.in_ok-seen.ensures.seen honest.1))) (read_then _ _ _ _ _ _ same c.look_by.ensures.failed)

pub returns-clause-failed : goal.returns-clause-failed
returns-clause-failed g c =
    let same = (keeps_same g.E.EraseDisk _ _ c.begin.ensures.same).quiet (λ f. f) in
    let looked : IsOk c.seen.result = search rules in
    let r : c.look_by.result ≡ Ok c.in_ok-found.found = search rules in
    fails_read _ _ _ c.in_ok-seen.seen c.look_by.new.seen _ _
    (λ reported. absurd (done_not_reported _ _ asks.Fault refl reported))
    (λ failed. absurd (done_not_reported c.look_by.result c.in_ok-found.found asks.Fault r failed))
    (c.seen.ensures.counts.quiet looked) c.in_ok-seen.ensures.fresh (λ honest same_disk. c.look_by.ensures.look (subst (λ d. g.O.OnceDisk.honest_seen d c.in_ok-seen.seen) (sym same_disk) (c.in_ok-seen.ensures.seen honest.1))) (read_then _ _ _ _ _ _ same c.look_by.ensures.failed)

-- ---- nothing is written

pub returns-in_err-begin-clause-still : goal.returns-in_err-begin-clause-still
returns-in_err-begin-clause-still g c h k =
    absurd (true≢false (sym c.in_err-begin.ensures.down ∙ k.maps.keeps.usable))

pub returns-in_err-check_moment-clause-still : goal.returns-in_err-check_moment-clause-still
returns-in_err-check_moment-clause-still g c h k =
    let a = c.args.self.now in
    let start : Start = start_of a h k in
    let s0 = c.in_ok-begin.ensures.shown k.honest.0 k.pages k.maps in
    let homes0 = ap home_pages c.begin.ensures.same in
    let r : Ready a h k c.begin.new.tx k.pages = record { shows = s0; homes = homes0 } in
    r.shows.clocked

pub returns-in_err-seen-clause-still : goal.returns-in_err-seen-clause-still
returns-in_err-seen-clause-still g c h k =
    let a = c.args.self.now in
    let start : Start = start_of a h k in
    let s0 = c.in_ok-begin.ensures.shown k.honest.0 k.pages k.maps in
    let homes0 = ap home_pages c.begin.ensures.same in
    let r : Ready a h k c.begin.new.tx k.pages = record { shows = s0; homes = homes0 } in
    r.shows.clocked

pub returns-in_err-found-clause-still : goal.returns-in_err-found-clause-still
returns-in_err-found-clause-still g c h k =
    let a = c.args.self.now in
    let start : Start = start_of a h k in
    let s0 = c.in_ok-begin.ensures.shown k.honest.0 k.pages k.maps in
    let homes0 = ap home_pages c.begin.ensures.same in
    let s1 = c.look_by.ensures.reads start k.pages s0 in
    let r : Ready a h k c.look_by.new.pages k.pages = record { shows = s1; homes = c.look_by.ensures.homes ∙ homes0 } in
    let pen = subst (λ d. g.O.OnceDisk.honest d (pen_of c.seen.new.self)) (sym c.seen.ensures.disk) (c.seen.ensures.honest.0 k.honest.1) in
    r.shows.clocked

pub returns-clause-still : goal.returns-clause-still
returns-clause-still g c h k =
    let a = c.args.self.now in
    let start : Start = start_of a h k in
    let s0 = c.in_ok-begin.ensures.shown k.honest.0 k.pages k.maps in
    let homes0 = ap home_pages c.begin.ensures.same in
    let s1 = c.look_by.ensures.reads start k.pages s0 in
    let r : Ready a h k c.look_by.new.pages k.pages = record { shows = s1; homes = c.look_by.ensures.homes ∙ homes0 } in
    let pen = subst (λ d. g.O.OnceDisk.honest d (pen_of c.seen.new.self)) (sym c.seen.ensures.disk) (c.seen.ensures.honest.0 k.honest.1) in
    r.shows.clocked
