use Rattle.std.proofs.Common.{rules, ◌≡◌, [], ◌∷◌, ℕ, length, true, refl, sym, ◌∙◌, ap, subst, arith, Ok, Err}
use Rattle.std.specs.Prelude.{IsErr}
use Rattle.std.specs.List.{slice_set}
use Rattle.disk_models.specs.Once.{settled_in}
use Rattle.once_store.specs.Shelves.{disk_of, next_of, pen_of}
use Rattle.page_tx.specs.Images.{joined}
use Rattle.archive_head.specs.Head.{Contents, head_octets}
use Rattle.tsb_tree.specs.Opened.{HasRootLevel}
use Rattle.archive_pages.specs.Refusals.{HeadRefusal}
use Rattle.archive_pages.specs.Represented.{HeadRepresents}
use Rattle.disk_archive.specs.Trees.{TreeLocated}
use Rattle.disk_archive.specs.inner.Applications.{Advances, FrontRefusal, IsPlan, Reached, Reaches}
use Rattle.disk_archive.specs.declared.apply_error.ApplyError.TheVariants as applies
use Rattle.disk_archive.proofs.Failing.{no_err, reports_first, reports_then, reports_as}
use Rattle.disk_archive.proofs.Faults.{done_not_reported, one_reported, reported_as}
use Rattle.disk_archive.proofs.Keeping.{joined_few, keeps_none, keeps_then, keeps_fewer, keeps_reported}
use Rattle.disk_archive.proofs.Reaching.{advances_then, plans_move}
use Rattle.disk_archive.proofs.Lacking.{front_applies, front_lacks, front_limits, head_reads, lacks_at, room_at}
use Rattle.disk_archive.proofs.Limited.{limits_as, on_reported}
use Rattle.disk_archive.proofs.planning_changes.plan_changes.Goals as goal

pub plan_first-requires-clause-fits : goal.plan_first-requires-clause-fits
plan_first-requires-clause-fits g c =
    let P = g.P.Pages in
    let e = c.begin_plan.ensures in
    let fits = subst (λ (n : ℕ). IsPlan c.args.settings n (P.next c.begin_plan.new.pages) (next_of c.args.shelf.now) c.args.sequencer.now c.in_ok-plan.plan) (sym e.homes)
    (subst (λ (n : ℕ). IsPlan c.args.settings (P.homes c.args.pages.now) n (next_of c.args.shelf.now) c.args.sequencer.now c.in_ok-plan.plan) (sym e.next)
    (c.in_ok-plan.ensures.fits (next_of c.args.shelf.now) c.requires.next c.requires.block)) in
    search (rules, fits)

pub plan_first-requires-clause-none : goal.plan_first-requires-clause-none
plan_first-requires-clause-none g c = c.begin_plan.ensures.named ∙ c.requires.none

pub put_head-requires-clause-few : goal.put_head-requires-clause-few
put_head-requires-clause-few g c = let n = c.in_ok-plan_more.ensures.fits.lanes in let few = c.requires.few in omega (arith, n, few)

pub put_head-requires-clause-some : goal.put_head-requires-clause-some
put_head-requires-clause-some g c = let x = c.plan_more.ensures.homes in let y = c.plan_first.ensures.homes in let z = c.begin_plan.ensures.homes in let some = c.requires.some in omega (arith, x, y, z, some)

pub of_pages-requires : goal.of_pages-requires
of_pages-requires g c = record {
  few = λ e.
      let over = subst (HeadRefusal (length (joined (g.P.Pages.named c.plan_more.new.pages) (0 ∷ [])))) e c.in-Err.ensures.refused in
      let most = joined_few (g.P.Pages.named c.plan_more.new.pages) (0 ∷ []) in
      let few = c.in_ok-plan_more.ensures.few in
      absurd (omega (arith, over, most, few));
}

pub returns-in_err-plan-clause-sound : goal.returns-in_err-plan-clause-sound
returns-in_err-plan-clause-sound g c start shown h shows honest b m page bad =
    c.begin_plan.ensures.sound (g.O.OnceDisk.block_count (disk_of c.args.shelf.now)) (g.O.OnceDisk.model (pen_of c.args.shelf.now)) start shown h shows b m page (search (rules, bad))

pub returns-in_err-plan-clause-shelf : goal.returns-in_err-plan-clause-shelf
returns-in_err-plan-clause-shelf g c = keeps_none g.O.OnceDisk 2000 c.args.shelf.now _ (λ full. let is = reported_as c.from_residual.result c.in_err-plan.field-0.0 applies.OnceFull c.from_residual.ensures.1 full in subst (FrontRefusal _) is c.in_err-plan.ensures.refused)

pub returns-in_err-plan-clause-refused : goal.returns-in_err-plan-clause-refused
returns-in_err-plan-clause-refused g c = on_reported c.from_residual.result c.in_err-plan.field-0.0 _ c.from_residual.ensures.1 (front_applies _ c.in_err-plan.field-0.0 c.in_err-plan.ensures.refused)

pub returns-in_err-plan_first-clause-sound : goal.returns-in_err-plan_first-clause-sound
returns-in_err-plan_first-clause-sound g c start shown h shows honest b m page bad =
    let r = c.in_ok-plan.ensures.reached (g.O.OnceDisk.block_count (disk_of c.args.shelf.now)) (g.O.OnceDisk.model (pen_of c.args.shelf.now)) start shown h shows b m in
    c.plan_first.ensures.sound start h honest r page (search (rules, bad))

pub returns-in_err-plan_first-clause-shelf : goal.returns-in_err-plan_first-clause-shelf
returns-in_err-plan_first-clause-shelf g c =
    keeps_fewer g.O.OnceDisk 2 2000 c.args.shelf.now c.plan_first.new.shelf _ (omega arith) (keeps_reported g.O.OnceDisk 2 c.args.shelf.now c.plan_first.new.shelf _ _ (λ full. search (rules, full)) c.plan_first.ensures.shelf)

pub returns-in_err-plan_first-clause-shows : goal.returns-in_err-plan_first-clause-shows
returns-in_err-plan_first-clause-shows g c start shown s = c.plan_first.ensures.shows start shown (c.begin_plan.ensures.reads start shown s)

pub returns-in-Ok-clause-planned : goal.returns-in-Ok-clause-planned
returns-in-Ok-clause-planned g c start shown h shows honest b m =
    let P = g.P.Pages in
    let O = g.O.OnceDisk in
    let s = c.args.settings in
    let lanes = c.args.sequencer.now in
    let count = O.block_count (disk_of c.args.shelf.now) in
    let step = c.plan_first.ensures.shelf in
    let r = c.in_ok-plan.ensures.reached count (O.model (pen_of c.args.shelf.now)) start shown h shows b m in
    let a = c.in_ok-plan_first.ensures.moves start h honest r in
    let disk = ap (λ d. O.block_count d) step.disk in
    let mid = settled_in (O.model (pen_of c.plan_first.new.shelf)) in
    let all = settled_in (O.model (pen_of c.plan_more.new.shelf)) in
    let moved : Advances count s all (P.shows c.plan_more.new.pages start) lanes c.plan_more.new.plan h =
    advances_then count s mid all (P.shows c.plan_first.new.pages start) (P.shows c.plan_more.new.pages start) lanes c.plan_first.new.plan c.plan_more.new.plan h a
    (λ n at. subst (λ (k : ℕ). Reaches k s all (P.shows c.plan_more.new.pages start) lanes c.plan_more.new.plan n) disk
    (c.in_ok-plan_more.ensures.reaches start n (step.honest.0 honest) (subst (λ (k : ℕ). Reached k s mid (P.shows c.plan_first.new.pages start) lanes c.plan_first.new.plan n) (sym disk) at))) in
    plans_move count s all (P.shows c.plan_more.new.pages start) (P.shows c.put_head.new.pages start) lanes c.plan_more.new.plan _ h refl refl c.put_head.ensures.valid
    (λ pages at. let n = g.met.P.Pages.count c.plan_more.new.pages start pages at in let x = c.plan_more.ensures.homes in let y = c.plan_first.ensures.homes in let z = c.begin_plan.ensures.homes in let some = c.requires.some in omega (arith, n, x, y, z, some))
    (λ pages at. c.in-Ok.ensures.written start pages at) moved

pub returns-in-Ok-clause-shelf : goal.returns-in-Ok-clause-shelf
returns-in-Ok-clause-shelf g c =
    keeps_reported g.O.OnceDisk 2000 c.args.shelf.now c.plan_more.new.shelf ⊥ _ (λ full. absurd cc)
    (keeps_then g.O.OnceDisk 2 1998 c.args.shelf.now c.plan_first.new.shelf c.plan_more.new.shelf ⊥ _ c.plan_first.ensures.shelf c.plan_more.ensures.shelf)

pub returns-in-Err-clause-shelf : goal.returns-in-Err-clause-shelf
returns-in-Err-clause-shelf g c =
    keeps_reported g.O.OnceDisk 2000 c.args.shelf.now c.plan_more.new.shelf ⊥ _ (λ full. c.of_pages.ensures.once cc)
    (keeps_then g.O.OnceDisk 2 1998 c.args.shelf.now c.plan_first.new.shelf c.plan_more.new.shelf ⊥ _ c.plan_first.ensures.shelf c.plan_more.ensures.shelf)

pub returns-in-Ok-clause-shows : goal.returns-in-Ok-clause-shows
returns-in-Ok-clause-shows g c start shown s =
    let mid = c.plan_first.ensures.shows start shown (c.begin_plan.ensures.reads start shown s) in
    let more = c.plan_more.ensures.shows start mid.0 mid.1 in
    (slice_set more.0 0 (head_octets c.plan_more.new.plan.head), c.in-Ok.ensures.written start more.0 more.1)

pub returns-in-Err-clause-refused : goal.returns-in-Err-clause-refused
returns-in-Err-clause-refused g c = c.of_pages.ensures.refused _ (λ e. absurd (subst (HeadRefusal _) e c.in-Err.ensures.refused))

-- ---- what is too much

pub returns-in_err-plan-clause-high : goal.returns-in_err-plan-clause-high
returns-in_err-plan-clause-high g c start shown shows reported = let is = reported_as c.from_residual.result c.in_err-plan.field-0.0 applies.TooHigh c.from_residual.ensures.1 reported in absurd (subst (FrontRefusal _) is c.in_err-plan.ensures.refused)

pub returns-in_err-plan-clause-limits : goal.returns-in_err-plan-clause-limits
returns-in_err-plan-clause-limits g c = on_reported c.from_residual.result c.in_err-plan.field-0.0 _ c.from_residual.ensures.1 (front_limits _ _ _ _ c.in_err-plan.field-0.0 c.in_err-plan.ensures.refused)

pub returns-in_err-plan-clause-lacks : goal.returns-in_err-plan-clause-lacks
returns-in_err-plan-clause-lacks g c start shown h shows honest b m = on_reported c.from_residual.result c.in_err-plan.field-0.0 _ c.from_residual.ensures.1 (front_lacks _ _ shown _ _ c.in_err-plan.field-0.0 c.in_err-plan.ensures.refused)

pub returns-in_err-plan_first-clause-lacks : goal.returns-in_err-plan_first-clause-lacks
returns-in_err-plan_first-clause-lacks g c start shown h shows honest b m =
    let e = c.in_err-plan_first.field-0.0 in
    let count = g.O.OnceDisk.block_count (disk_of c.args.shelf.now) in
    let settled = settled_in (g.O.OnceDisk.model (pen_of c.args.shelf.now)) in
    let head = c.in_ok-plan.ensures.head in
    let was = c.in_ok-plan.ensures.reached count (g.O.OnceDisk.model (pen_of c.args.shelf.now)) start shown h shows b m in
    let r : Reached count c.args.settings settled (g.P.Pages.shows c.begin_plan.new.pages start) c.args.sequencer.now c.in_ok-plan.plan h =
    record { pages = shown; shown = c.begin_plan.ensures.reads start shown shows; head_represents = subst (λ (x : Contents). HeadRepresents (TreeLocated count) c.args.settings settled x shown h) (sym head) b; mirrors = was.mirrors; first = was.first } in
    on_reported c.from_residual-in_err-plan_first.result e _ c.from_residual-in_err-plan_first.ensures.1
    (lacks_at _ shown _ _ _ _ e (let homes = c.begin_plan.ensures.homes in let next = c.begin_plan.ensures.next in omega (arith, homes, next)) (ap (λ (x : Contents). x.root) head) (c.in_err-plan_first.ensures.lacks start h honest r))

pub returns-in-Err-clause-lacks : goal.returns-in-Err-clause-lacks
returns-in-Err-clause-lacks g c start shown h shows honest b m =
    let images = joined (g.P.Pages.named c.plan_more.new.pages) (0 ∷ []) in
    let most = joined_few (g.P.Pages.named c.plan_more.new.pages) (0 ∷ []) in
    let few = c.in_ok-plan_more.ensures.few in
    front_lacks true _ shown _ _ c.of_pages.result (c.of_pages.ensures.reads true (head_reads true (length images) c.in-Err.refusal
    (λ many. let over = subst (HeadRefusal (length images)) many c.in-Err.ensures.refused in absurd (omega (arith, over, most, few))) c.in-Err.ensures.refused))

pub returns-in_err-plan_first-clause-high : goal.returns-in_err-plan_first-clause-high
returns-in_err-plan_first-clause-high g c start shown shows reported =
    subst (λ (x : Contents). HasRootLevel shown x.root 7) c.in_ok-plan.ensures.head (c.plan_first.ensures.high start shown (c.begin_plan.ensures.reads start shown shows) (search (rules, reported)))

pub returns-in_err-plan_first-clause-limits : goal.returns-in_err-plan_first-clause-limits
returns-in_err-plan_first-clause-limits g c =
    let e = c.in_err-plan_first.field-0.0 in
    on_reported c.from_residual-in_err-plan_first.result e _ c.from_residual-in_err-plan_first.ensures.1
    (limits_as _ _ _ _ _ _ e c.begin_plan.ensures.homes c.begin_plan.ensures.next (ap (λ (x : Contents). x.applied) c.in_ok-plan.ensures.head) c.in_err-plan_first.ensures.limits)

pub returns-in-Err-clause-limits : goal.returns-in-Err-clause-limits
returns-in-Err-clause-limits g c = c.of_pages.ensures.limits _ _ _ (λ e. absurd (subst (HeadRefusal _) e c.in-Err.ensures.refused))

pub returns-in-Ok-clause-room : goal.returns-in-Ok-clause-room
returns-in-Ok-clause-room g c start shown h shows honest b m =
    let count = g.O.OnceDisk.block_count (disk_of c.args.shelf.now) in
    let settled = settled_in (g.O.OnceDisk.model (pen_of c.args.shelf.now)) in
    let head = c.in_ok-plan.ensures.head in
    let was = c.in_ok-plan.ensures.reached count (g.O.OnceDisk.model (pen_of c.args.shelf.now)) start shown h shows b m in
    let r : Reached count c.args.settings settled (g.P.Pages.shows c.begin_plan.new.pages start) c.args.sequencer.now c.in_ok-plan.plan h =
    record { pages = shown; shown = c.begin_plan.ensures.reads start shown shows; head_represents = subst (λ (x : Contents). HeadRepresents (TreeLocated count) c.args.settings settled x shown h) (sym head) b; mirrors = was.mirrors; first = was.first } in
    room_at _ shown _ _ _ _ _ _ _ (let homes = c.begin_plan.ensures.homes in let next = c.begin_plan.ensures.next in omega (arith, homes, next)) (ap (λ (x : Contents). x.root) head) (ap (λ (x : Contents). x.applied) head)
    (c.in_ok-plan_first.ensures.room start h honest r)

-- ---- a device failed after the first change

pub returns-in_err-plan_more-clause-sound : goal.returns-in_err-plan_more-clause-sound
returns-in_err-plan_more-clause-sound g c start shown h shows honest b m page bad = absurd (search (rules, bad))

pub returns-in_err-plan_more-clause-shelf : goal.returns-in_err-plan_more-clause-shelf
returns-in_err-plan_more-clause-shelf g c =
    keeps_reported g.O.OnceDisk 2000 c.args.shelf.now c.plan_more.new.shelf ⊥ _ (λ full. search (rules, full))
    (keeps_then g.O.OnceDisk 2 1998 c.args.shelf.now c.plan_first.new.shelf c.plan_more.new.shelf ⊥ _ c.plan_first.ensures.shelf c.plan_more.ensures.shelf)

pub returns-in_err-plan_more-clause-shows : goal.returns-in_err-plan_more-clause-shows
returns-in_err-plan_more-clause-shows g c start shown s =
    let mid = c.plan_first.ensures.shows start shown (c.begin_plan.ensures.reads start shown s) in
    c.plan_more.ensures.shows start mid.0 mid.1

-- ---- how often both disks failed

pub returns-in_err-plan-clause-failed : goal.returns-in_err-plan-clause-failed
returns-in_err-plan-clause-failed g c =
    let e = c.in_err-plan.field-0.0 in
    let r : c.begin_plan.result ≡ Err e = search rules in
    let d : c.from_residual.result ≡ Err e = search rules in
    reports_as _ _ _ _ _ _ (λ reported. r ∙ ap Err (one_reported c.from_residual.result e applies.Fault d reported)) (λ failed. d ∙ ap Err (one_reported c.begin_plan.result e applies.Fault r failed)) (reports_first _ _ _ _ _ _ c.begin_plan.ensures.device)

pub returns-in_err-plan_first-clause-failed : goal.returns-in_err-plan_first-clause-failed
returns-in_err-plan_first-clause-failed g c =
    let begun : c.begin_plan.result ≡ Ok c.in_ok-plan.plan = search rules in
    let first = c.begin_plan.ensures.device.quiet (done_not_reported c.begin_plan.result c.in_ok-plan.plan applies.Fault begun) in
    let e = c.in_err-plan_first.field-0.0 in
    let r : c.plan_first.result ≡ Err e = search rules in
    let d : c.from_residual-in_err-plan_first.result ≡ Err e = search rules in
    reports_then _ _ _ _ _ _ _ (first, refl)
    (reports_as _ _ _ _ _ _ (λ reported. r ∙ ap Err (one_reported c.from_residual-in_err-plan_first.result e applies.Fault d reported)) (λ failed. d ∙ ap Err (one_reported c.plan_first.result e applies.Fault r failed)) c.plan_first.ensures.failed)

pub returns-in_err-plan_more-clause-failed : goal.returns-in_err-plan_more-clause-failed
returns-in_err-plan_more-clause-failed g c =
    let begun : c.begin_plan.result ≡ Ok c.in_ok-plan.plan = search rules in
    let first = c.begin_plan.ensures.device.quiet (done_not_reported c.begin_plan.result c.in_ok-plan.plan applies.Fault begun) in
    let step : c.plan_first.result ≡ Ok tt = search rules in
    let then = c.plan_first.ensures.failed.quiet (done_not_reported c.plan_first.result tt applies.Fault step) in
    let failed : IsErr c.plan_more.result = search rules in
    let d : c.from_residual-in_err-plan_more.result ≡ Err applies.Fault = search rules in
    reports_then _ _ _ _ _ _ _ (first, refl) (reports_then _ _ _ _ _ _ _ then (reports_as _ _ _ _ _ _ (λ reported. failed) (λ f. d) c.plan_more.ensures.failed))

pub returns-in-Ok-clause-failed : goal.returns-in-Ok-clause-failed
returns-in-Ok-clause-failed g c =
    let begun : c.begin_plan.result ≡ Ok c.in_ok-plan.plan = search rules in
    let first = c.begin_plan.ensures.device.quiet (done_not_reported c.begin_plan.result c.in_ok-plan.plan applies.Fault begun) in
    let step : c.plan_first.result ≡ Ok tt = search rules in
    let then = c.plan_first.ensures.failed.quiet (done_not_reported c.plan_first.result tt applies.Fault step) in
    let more : c.plan_more.result ≡ Ok tt = search rules in
    let last = c.plan_more.ensures.failed.quiet (no_err c.plan_more.result tt more) in
    reports_then _ _ _ _ _ _ _ (first, refl) (reports_then _ _ _ _ _ _ _ then (reports_then _ _ _ _ _ _ _ last (reports_as _ _ _ _ ⊥ _ (λ reported. absurd cc) (λ never. absurd never) (reports_first _ _ _ _ _ _ c.put_head.ensures.device))))

pub returns-in-Err-clause-failed : goal.returns-in-Err-clause-failed
returns-in-Err-clause-failed g c =
    let begun : c.begin_plan.result ≡ Ok c.in_ok-plan.plan = search rules in
    let first = c.begin_plan.ensures.device.quiet (done_not_reported c.begin_plan.result c.in_ok-plan.plan applies.Fault begun) in
    let step : c.plan_first.result ≡ Ok tt = search rules in
    let then = c.plan_first.ensures.failed.quiet (done_not_reported c.plan_first.result tt applies.Fault step) in
    let more : c.plan_more.result ≡ Ok tt = search rules in
    let last = c.plan_more.ensures.failed.quiet (no_err c.plan_more.result tt more) in
    reports_then _ _ _ _ _ _ _ (first, refl) (reports_then _ _ _ _ _ _ _ then (reports_then _ _ _ _ _ _ _ last
    (reports_as _ _ _ _ ⊥ _ (λ reported. (let is : c.of_pages.result ≡ applies.Fault = cc in subst (HeadRefusal _) (c.of_pages.ensures.fault.0 is) c.in-Err.ensures.refused)) (λ never. absurd never) (reports_first _ _ _ _ _ _ c.put_head.ensures.device))))
