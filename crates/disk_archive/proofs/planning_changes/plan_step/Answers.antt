use Rattle.std.proofs.Common.{rules, ◌≡◌, ℕ, List, min, refl, sym, ◌∙◌, ap, subst, arith, Ok, Err}
use Rattle.std.specs.List.{slice_get}
use Rattle.route_model.specs.Admission.{Admitted}
use Rattle.archive_pages.specs.Batches.{CanPop}
use Rattle.archive_head.specs.Head.{Contents}
use Rattle.archive_head.specs.declared.lane.Lane.{Lane}
use Rattle.sequencer.specs.Ahead.{beyond}
use Rattle.sequencer.specs.First.{IsNext}
use Rattle.once_store.specs.Shelves.{next_of}
use Rattle.disk_archive.specs.declared.planning_changes.Plan.{Plan}
use Rattle.disk_archive.specs.inner.Applications.{IsPlan}
use Rattle.disk_archive.specs.declared.apply_error.ApplyError.TheVariants as applies
use Rattle.disk_archive.specs.declared.change_error.ChangeError.TheVariants as changes
use Rattle.disk_archive.proofs.Failing.{reports_as}
use Rattle.disk_archive.proofs.Faults.{done_not_reported, one_reported}
use Rattle.disk_archive.proofs.Limited.{on_reported}
use Rattle.disk_archive.proofs.Outcomes.{on_each_err}
use Rattle.disk_archive.proofs.Reaching.{advances, at_hand}
use Rattle.disk_archive.proofs.planning_changes.plan_step.Goals as goal

pub plan_change-requires-clause-fits : goal.plan_change-requires-clause-fits
plan_change-requires-clause-fits g c lane at =
    let front = c.args.plan.now.front in
    let hand = c.requires.fits.hand c.requires.hand in
    subst (λ (x : Admitted). CanPop c.args.settings front.collector lane x) (sym c.admission-admission.ensures) (hand.fits lane at)

pub returns-clause-moves : goal.returns-clause-moves
returns-clause-moves g c start h honest r =
    let f = at_hand h c.args.plan.now.front c.admission-admission.result.now (r.first c.requires.hand) (sym c.admission-admission.ensures) in
    let hand = c.requires.fits.hand c.requires.hand in
    advances _ c.args.settings _ _ (g.P.Pages.shows c.args.pages.now start) (g.P.Pages.shows c.plan_change.new.pages start) c.args.sequencer.now c.args.plan.now _ h r (r.first c.requires.hand)
    (let n = r.head_represents.number in let m = r.head_represents.lanes_number in let lt = hand.inside in omega (arith, n, m, lt)) refl
    c.pass_whole.ensures.leaves (λ part. ap (λ (ns : List ℕ). beyond ns c.args.sequencer.now) (c.pass_whole.ensures.stays part))
    (c.in_ok-whole.ensures.moves start r.pages h f.later r.shown honest r.head_represents f.here f.below)

pub returns-clause-fits : goal.returns-clause-fits
returns-clause-fits g c =
    let fits = c.requires.fits in
    let hand = fits.hand c.requires.hand in
    record {
      pages = c.in_ok-whole.ensures.next;
      blocks = c.in_ok-whole.ensures.block;
      lanes = c.plan_change.ensures.lanes ∙ fits.lanes;
      count = c.pass_whole.ensures.count;
      hand = λ part. (
          let same = c.in_ok-whole.ensures.stays part in
          record {
            next = subst (λ (ns : List ℕ). IsNext (beyond ns c.args.sequencer.now) c.args.plan.now.front.collector) (sym (c.pass_whole.ensures.stays part)) hand.next;
            inside = (let lt = hand.inside in let n = c.plan_change.ensures.lanes in omega (arith, lt, n));
            fits = λ lane at. hand.fits lane (ap (λ (ls : List Lane). slice_get ls c.args.plan.now.front.collector) (sym same) ∙ at);
          });
    }

pub returns-in_err-whole-clause-fits : goal.returns-in_err-whole-clause-fits
returns-in_err-whole-clause-fits g c =
    let P = g.P.Pages in
    let fits = c.requires.fits in
    let e = c.in_err-whole.ensures in
    let k = c.plan_change.ensures in
    let same : record c.args.plan.now { head = c.plan_change.new.head } ≡ c.args.plan.now = ap (λ (x : Contents). record c.args.plan.now { head = x }) e.as_before in
    subst (λ (x : Plan). IsPlan c.args.settings (P.homes c.plan_change.new.pages) (P.next c.plan_change.new.pages) (next_of c.plan_change.new.shelf) c.args.sequencer.now x) (sym same) (record {
      pages = e.as_next ∙ (fits.pages ∙ ap (λ (n : ℕ). min c.args.plan.now.head.fresh n) (sym k.homes));
      blocks = (let low = fits.blocks in let on = k.shelf.forward in omega (arith, low, on));
      lanes = fits.lanes;
      count = fits.count;
      hand = fits.hand;
    })

pub returns-in_err-whole-clause-as_before : goal.returns-in_err-whole-clause-as_before
returns-in_err-whole-clause-as_before g c = on_each_err _ _ (ap (λ (x : Contents). record c.args.plan.now { head = x }) c.in_err-whole.ensures.as_before)

pub returns-in_err-whole-clause-sound : goal.returns-in_err-whole-clause-sound
returns-in_err-whole-clause-sound g c start h honest r page bad =
    let f = at_hand h c.args.plan.now.front c.admission-admission.result.now (r.first c.requires.hand) (sym c.admission-admission.ensures) in
    c.plan_change.ensures.sound start r.pages h f.later r.shown honest r.head_represents f.here page (search (rules, bad))

pub returns-in_err-whole-clause-high : goal.returns-in_err-whole-clause-high
returns-in_err-whole-clause-high g c start shown shows reported = c.plan_change.ensures.high start shown shows (search (rules, reported))

pub returns-in_err-whole-clause-lacks : goal.returns-in_err-whole-clause-lacks
returns-in_err-whole-clause-lacks g c start h honest r =
    let f = at_hand h c.args.plan.now.front c.admission-admission.result.now (r.first c.requires.hand) (sym c.admission-admission.ensures) in
    on_reported c.from_residual.result c.in_err-whole.field-0.0 _ c.from_residual.ensures.1 (c.in_err-whole.ensures.lacks start r.pages h f.later r.shown honest r.head_represents f.here)

pub returns-clause-room : goal.returns-clause-room
returns-clause-room g c start h honest r =
    let f = at_hand h c.args.plan.now.front c.admission-admission.result.now (r.first c.requires.hand) (sym c.admission-admission.ensures) in
    c.in_ok-whole.ensures.room start r.pages h f.later r.shown honest r.head_represents f.here

pub returns-in_err-whole-clause-first : goal.returns-in_err-whole-clause-first
returns-in_err-whole-clause-first g c few is = c.plan_change.ensures.first few (search (rules, is))

-- ---- how often both disks failed

pub returns-in_err-whole-clause-failed : goal.returns-in_err-whole-clause-failed
returns-in_err-whole-clause-failed g c =
    let e = c.in_err-whole.field-0.0 in
    let r : c.plan_change.result ≡ Err e = search rules in
    let d : c.from_residual.result ≡ Err e = search rules in
    reports_as _ _ _ _ _ _ (λ reported. r ∙ ap Err (one_reported c.from_residual.result e (changes.Apply applies.Fault) d reported)) (λ failed. d ∙ ap Err (one_reported c.plan_change.result e (changes.Apply applies.Fault) r failed)) c.plan_change.ensures.failed

pub returns-clause-failed : goal.returns-clause-failed
returns-clause-failed g c =
    let r : c.plan_change.result ≡ Ok c.in_ok-whole.whole = search rules in
    reports_as _ _ _ _ _ _ (λ reported. absurd cc) (λ failed. absurd (done_not_reported c.plan_change.result c.in_ok-whole.whole (changes.Apply applies.Fault) r failed)) c.plan_change.ensures.failed
