use Rattle.std.proofs.Common.{rules, ◌≡◌, ◌<◌, ℕ, refl, sym, ◌∙◌, ap, subst, arith, true≢false, Ok, Err}
use Rattle.page_journal.specs.Journal.{home_pages}
use Rattle.page_tx.specs.Start.{Start}
use Rattle.route_meaning.specs.History.{settled}
use Rattle.interleaving_core.specs.Does.{last_moment}
use Rattle.disk_archive.specs.declared.ask_error.AskError.TheVariants as refusals
use Rattle.disk_archive.specs.Archives.{once_state}
use Rattle.disk_archive.specs.Cursors.{asks}
use Rattle.disk_archive.specs.Descents.{ReadsBelow}
use Rattle.disk_archive.proofs.Mirroring.{mirror_settled}
use Rattle.disk_archive.proofs.Calling.{Ready, start_of, grows_none, unwritten, kept}
use Rattle.disk_archive.proofs.Asking.{above_reported}
use Rattle.disk_archive.proofs.Faults.{above_no_fault, done_not_reported, keeps_same, keeps_then, keeps_reported, need_no_fault, one_reported}
use Rattle.disk_archive.proofs.Turning.{pages_in}
use Rattle.disk_archive.proofs.archive.Archive.try_descend.Goals as goal

pub returns-in_err-begin-clause-represents : goal.returns-in_err-begin-clause-represents
returns-in_err-begin-clause-represents g c h k =
    absurd (true≢false (sym c.in_err-begin.ensures.down ∙ k.maps.keeps.usable))

pub returns-in_err-begin-clause-crash : goal.returns-in_err-begin-clause-crash
returns-in_err-begin-clause-crash g c h k =
    absurd (true≢false (sym c.in_err-begin.ensures.down ∙ k.maps.keeps.usable))

pub returns-in_err-begin-clause-watermark : goal.returns-in_err-begin-clause-watermark
returns-in_err-begin-clause-watermark g c h k above =
    absurd (true≢false (sym c.in_err-begin.ensures.down ∙ k.maps.keeps.usable))

pub returns-in_err-check_settled-clause-represents : goal.returns-in_err-check_settled-clause-represents
returns-in_err-check_settled-clause-represents g c h k =
    let a = c.args.self.now in
    let start : Start = start_of a h k in
    let s0 = c.in_ok-begin.ensures.shown k.honest.0 k.pages k.maps in
    let homes0 = ap home_pages c.begin.ensures.same in
    let r : Ready a h k c.begin.new.tx k.pages = record { shows = s0; homes = homes0 } in
    kept c.args.self.now _ h k k.pages r refl refl refl refl (s0.honest, k.honest.1) k.mirrors

pub returns-in_err-check_settled-clause-crash : goal.returns-in_err-check_settled-clause-crash
returns-in_err-check_settled-clause-crash g c h k =
    let a = c.args.self.now in
    let start : Start = start_of a h k in
    let s0 = c.in_ok-begin.ensures.shown k.honest.0 k.pages k.maps in
    let homes0 = ap home_pages c.begin.ensures.same in
    let r : Ready a h k c.begin.new.tx k.pages = record { shows = s0; homes = homes0 } in
    unwritten a _ h h k k.pages g.met.E.EraseDisk.sound r (grows_none (once_state a))

pub returns-in_err-descent-clause-represents : goal.returns-in_err-descent-clause-represents
returns-in_err-descent-clause-represents g c h k =
    let a = c.args.self.now in
    let start : Start = start_of a h k in
    let s0 = c.in_ok-begin.ensures.shown k.honest.0 k.pages k.maps in
    let homes0 = ap home_pages c.begin.ensures.same in
    let s1 = c.descend_by.ensures.reads start k.pages s0 in
    let r : Ready a h k c.descend_by.new.pages k.pages = record { shows = s1; homes = c.descend_by.ensures.homes ∙ homes0 } in
    kept a _ h k k.pages r refl refl refl refl (s1.honest, k.honest.1) k.mirrors

pub returns-in_err-descent-clause-crash : goal.returns-in_err-descent-clause-crash
returns-in_err-descent-clause-crash g c h k =
    let a = c.args.self.now in
    let start : Start = start_of a h k in
    let s0 = c.in_ok-begin.ensures.shown k.honest.0 k.pages k.maps in
    let homes0 = ap home_pages c.begin.ensures.same in
    let s1 = c.descend_by.ensures.reads start k.pages s0 in
    let r : Ready a h k c.descend_by.new.pages k.pages = record { shows = s1; homes = c.descend_by.ensures.homes ∙ homes0 } in
    unwritten a _ h h k k.pages g.met.E.EraseDisk.sound r (grows_none (once_state a))

pub returns-clause-represents : goal.returns-clause-represents
returns-clause-represents g c h k =
    let a = c.args.self.now in
    let start : Start = start_of a h k in
    let s0 = c.in_ok-begin.ensures.shown k.honest.0 k.pages k.maps in
    let homes0 = ap home_pages c.begin.ensures.same in
    let s1 = c.descend_by.ensures.reads start k.pages s0 in
    let r : Ready a h k c.descend_by.new.pages k.pages = record { shows = s1; homes = c.descend_by.ensures.homes ∙ homes0 } in
    kept a _ h k k.pages r refl refl refl refl (s1.honest, k.honest.1) k.mirrors

pub returns-clause-crash : goal.returns-clause-crash
returns-clause-crash g c h k =
    let a = c.args.self.now in
    let start : Start = start_of a h k in
    let s0 = c.in_ok-begin.ensures.shown k.honest.0 k.pages k.maps in
    let homes0 = ap home_pages c.begin.ensures.same in
    let s1 = c.descend_by.ensures.reads start k.pages s0 in
    let r : Ready a h k c.descend_by.new.pages k.pages = record { shows = s1; homes = c.descend_by.ensures.homes ∙ homes0 } in
    unwritten a _ h h k k.pages g.met.E.EraseDisk.sound r (grows_none (once_state a))

pub returns-in_err-descent-clause-blames : goal.returns-in_err-descent-clause-blames
returns-in_err-descent-clause-blames g c h k =
    let a = c.args.self.now in
    let s0 = c.in_ok-begin.ensures.shown k.honest.0 k.pages k.maps in
    let b = c.descend_by.ensures.blames _ _ h (pages_in a h k _ _ s0) in
    search (rules, b)

pub returns-in_err-descent-clause-gathered : goal.returns-in_err-descent-clause-gathered
returns-in_err-descent-clause-gathered g c h k gathered =
    let a = c.args.self.now in
    let s0 = c.in_ok-begin.ensures.shown k.honest.0 k.pages k.maps in
    let e = mirror_settled a.sequencer h k.mirrors in
    let lt = c.in_ok-check_settled.ensures.below in
    let asked = ap last_moment c.query.ensures in
    let below : last_moment (asks c.args.cursor.now) < settled h = omega (arith, lt, e, asked) in
    c.descend_by.ensures.gathered _ _ h (pages_in a h k _ _ s0) below gathered

pub returns-clause-gathered : goal.returns-clause-gathered
returns-clause-gathered g c h k gathered =
    let a = c.args.self.now in
    let s0 = c.in_ok-begin.ensures.shown k.honest.0 k.pages k.maps in
    let e = mirror_settled a.sequencer h k.mirrors in
    let lt = c.in_ok-check_settled.ensures.below in
    let asked = ap last_moment c.query.ensures in
    let below : last_moment (asks c.args.cursor.now) < settled h = omega (arith, lt, e, asked) in
    c.descend_by.ensures.gathered _ _ h (pages_in a h k _ _ s0) below gathered

pub returns-clause-descends : goal.returns-clause-descends
returns-clause-descends g c h k gathered =
    let a = c.args.self.now in
    let s0 = c.in_ok-begin.ensures.shown k.honest.0 k.pages k.maps in
    let e = mirror_settled a.sequencer h k.mirrors in
    let lt = c.in_ok-check_settled.ensures.below in
    let asked = ap last_moment c.query.ensures in
    let below : last_moment (asks c.args.cursor.now) < settled h = omega (arith, lt, e, asked) in
    c.in_ok-descent.ensures.descends _ _ h (pages_in a h k _ _ s0) below gathered

pub returns-clause-below : goal.returns-clause-below
returns-clause-below g c h k =
    let e = mirror_settled c.args.self.now.sequencer h k.mirrors in
    let lt = c.in_ok-check_settled.ensures.below in
    let asked = ap last_moment c.query.ensures in
    omega (arith, lt, e, asked)

pub returns-in_err-check_settled-clause-above : goal.returns-in_err-check_settled-clause-above
returns-in_err-check_settled-clause-above g c h k mark reported =
    let e = mirror_settled c.args.self.now.sequencer h k.mirrors in
    let was : c.check_settled.result ≡ Err (refusals.AboveWatermark mark) = search (rules, reported) in
    let asked = ap last_moment c.query.ensures in
    let f = above_reported c.check_settled.result _ (last_moment c.query.result) mark c.check_settled.ensures.above was in
    let le = f.1 in
    (f.0 ∙ e, omega (arith, le, e, asked))

pub returns-in_err-check_settled-clause-watermark : goal.returns-in_err-check_settled-clause-watermark
returns-in_err-check_settled-clause-watermark g c h k above =
    let e = mirror_settled c.args.self.now.sequencer h k.mirrors in
    let f = c.in_err-check_settled.ensures.above in
    let is : c.in_err-check_settled.field-0.0 ≡ refusals.AboveWatermark (settled h) = f.0 ∙ ap (λ (n : ℕ). refusals.AboveWatermark n) e in
    search (rules, is)

pub returns-in_err-descent-clause-watermark : goal.returns-in_err-descent-clause-watermark
returns-in_err-descent-clause-watermark g c h k above =
    let e = mirror_settled c.args.self.now.sequencer h k.mirrors in
    let lt = c.in_ok-check_settled.ensures.below in
    let asked = ap last_moment c.query.ensures in
    absurd (omega (arith, lt, e, asked, above))

pub returns-clause-watermark : goal.returns-clause-watermark
returns-clause-watermark g c h k above =
    let e = mirror_settled c.args.self.now.sequencer h k.mirrors in
    let lt = c.in_ok-check_settled.ensures.below in
    let asked = ap last_moment c.query.ensures in
    absurd (omega (arith, lt, e, asked, above))

-- ---- the device of the pages

pub returns-in_err-begin-clause-device : goal.returns-in_err-begin-clause-device
returns-in_err-begin-clause-device g c =
    let d : c.from_residual.result ≡ Err refusals.NeedsRecovery = search rules in
    keeps_reported _ _ _ _ _ _ (λ reported. need_no_fault (one_reported c.from_residual.result refusals.NeedsRecovery refusals.Fault d reported)) (λ never. absurd never) (keeps_same g.E.EraseDisk _ _ c.begin.ensures.same)

pub returns-in_err-check_settled-clause-device : goal.returns-in_err-check_settled-clause-device
returns-in_err-check_settled-clause-device g c =
    let above = c.in_err-check_settled.ensures.above in
    let e = c.in_err-check_settled.field-0.0 in
    let d : c.from_residual-in_err-check_settled.result ≡ Err e = search rules in
    keeps_reported _ _ _ _ _ _ (λ reported. above_no_fault e _ above.0 (one_reported c.from_residual-in_err-check_settled.result e refusals.Fault d reported)) (λ never. absurd never) (keeps_same g.E.EraseDisk _ _ c.begin.ensures.same)

pub returns-in_err-descent-clause-device : goal.returns-in_err-descent-clause-device
returns-in_err-descent-clause-device g c =
    let first = keeps_same g.E.EraseDisk _ _ c.begin.ensures.same in
    let e = c.in_err-descent.field-0.0 in
    let r : c.descend_by.result ≡ Err e = search rules in
    let d : c.from_residual-in_err-descent.result ≡ Err e = search rules in
    keeps_then _ _ _ _ _ _ _ first
    (keeps_reported _ _ _ _ _ _
    (λ reported. r ∙ ap Err (one_reported c.from_residual-in_err-descent.result e refusals.Fault d reported))
    (λ failed. d ∙ ap Err (one_reported c.descend_by.result e refusals.Fault r failed))
    c.descend_by.ensures.device)

pub returns-clause-device : goal.returns-clause-device
returns-clause-device g c =
    let first = keeps_same g.E.EraseDisk _ _ c.begin.ensures.same in
    let r : c.descend_by.result ≡ Ok c.in_ok-descent.descent = search rules in
    keeps_then _ _ _ _ _ _ _ first
    (keeps_reported _ _ _ _ _ _ (λ reported. absurd (done_not_reported _ _ refusals.Fault refl reported)) (λ failed. absurd (done_not_reported c.descend_by.result c.in_ok-descent.descent refusals.Fault r failed)) c.descend_by.ensures.device)

-- ---- errands

pub returns-clause-burnt : goal.returns-clause-burnt
returns-clause-burnt g c = subst (λ (n : ℕ). ReadsBelow n c.in_ok-descent.descent) c.next-burnt.ensures.next c.in_ok-descent.ensures.burnt

-- ---- nothing is written

pub returns-in_err-begin-clause-still : goal.returns-in_err-begin-clause-still
returns-in_err-begin-clause-still g c h k =
    absurd (true≢false (sym c.in_err-begin.ensures.down ∙ k.maps.keeps.usable))

pub returns-in_err-check_settled-clause-still : goal.returns-in_err-check_settled-clause-still
returns-in_err-check_settled-clause-still g c h k =
    let a = c.args.self.now in
    let start : Start = start_of a h k in
    let s0 = c.in_ok-begin.ensures.shown k.honest.0 k.pages k.maps in
    let homes0 = ap home_pages c.begin.ensures.same in
    let r : Ready a h k c.begin.new.tx k.pages = record { shows = s0; homes = homes0 } in
    r.shows.clocked

pub returns-in_err-descent-clause-still : goal.returns-in_err-descent-clause-still
returns-in_err-descent-clause-still g c h k =
    let a = c.args.self.now in
    let start : Start = start_of a h k in
    let s0 = c.in_ok-begin.ensures.shown k.honest.0 k.pages k.maps in
    let homes0 = ap home_pages c.begin.ensures.same in
    let s1 = c.descend_by.ensures.reads start k.pages s0 in
    let r : Ready a h k c.descend_by.new.pages k.pages = record { shows = s1; homes = c.descend_by.ensures.homes ∙ homes0 } in
    r.shows.clocked

pub returns-clause-still : goal.returns-clause-still
returns-clause-still g c h k =
    let a = c.args.self.now in
    let start : Start = start_of a h k in
    let s0 = c.in_ok-begin.ensures.shown k.honest.0 k.pages k.maps in
    let homes0 = ap home_pages c.begin.ensures.same in
    let s1 = c.descend_by.ensures.reads start k.pages s0 in
    let r : Ready a h k c.descend_by.new.pages k.pages = record { shows = s1; homes = c.descend_by.ensures.homes ∙ homes0 } in
    r.shows.clocked
