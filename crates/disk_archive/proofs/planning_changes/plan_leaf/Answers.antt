use Rattle.std.proofs.Common.{rules, ◌≡◌, ℕ, List, length, min, refl, sym, ◌∙◌, ap, subst, arith, Ok, Some}
use Rattle.std.specs.List.{slice_get}
use Rattle.disk_models.specs.Once.{settled_in}
use Rattle.route_model.specs.Admission.{Admitted}
use Rattle.archive_head.specs.Head.{Contents}
use Rattle.archive_head.specs.declared.lane.Lane.{Lane}
use Rattle.archive_pages.specs.Batches.{CanPop}
use Rattle.archive_pages.specs.Represented.{HeadRepresents}
use Rattle.sequencer.specs.Ahead.{beyond}
use Rattle.sequencer.specs.First.{IsNext}
use Rattle.disk_archive.specs.Trees.{TreeLocated}
use Rattle.disk_archive.proofs.Reaching.{advances, at_hand, reaches_one}
use Rattle.disk_archive.proofs.planning_changes.plan_leaf.Goals as goal

pub plan_run-requires-clause-collector : goal.plan_run-requires-clause-collector
plan_run-requires-clause-collector g c = let lt = c.requires.at_hand.inside in let n = ap (λ (x : Contents). length x.lanes) c.in_ok-head.ensures.copy in omega (arith, lt, n)

pub plan_run-requires-clause-fits : goal.plan_run-requires-clause-fits
plan_run-requires-clause-fits g c lane at =
    let front = c.args.plan.now.front in
    let copy = ap (λ (x : Contents). slice_get x.lanes front.collector) c.in_ok-head.ensures.copy in
    subst (λ (x : Admitted). CanPop c.args.settings front.collector lane x) (sym c.admission-admission.ensures) (c.requires.at_hand.fits lane (sym copy ∙ at))

pub returns-clause-reaches : goal.returns-clause-reaches
returns-clause-reaches g c count o start h r =
    let P = g.P.Pages in
    let s = c.args.settings in
    let settled = settled_in o in
    let plan = c.args.plan.now in
    let lanes = c.args.sequencer.now in
    let first = r.first c.requires.hand in
    let f = at_hand h plan.front c.admission-admission.result.now first (sym c.admission-admission.ensures) in
    let b = subst (λ (x : Contents). HeadRepresents (TreeLocated count) s settled x r.pages h) (sym c.in_ok-head.ensures.copy) r.head_represents in
    let did : c.plan_run.result ≡ Ok (Some c.in-Some.all) = search rules in
    let m = c.plan_run.ensures.moves c.in-Some.all did count o start r.pages h f.later r.shown b f.here f.below in
    reaches_one count s settled (P.shows c.plan_run.new.pages start) lanes _ h
    (advances count s settled settled (P.shows c.args.pages.now start) (P.shows c.plan_run.new.pages start) lanes plan _ h r first
    (let n = r.head_represents.number in let k = r.head_represents.lanes_number in let lt = c.requires.at_hand.inside in omega (arith, n, k, lt)) refl
    c.pass_whole.ensures.leaves (λ part. ap (λ (ns : List ℕ). beyond ns lanes) (c.pass_whole.ensures.stays part)) m)

pub returns-clause-fits : goal.returns-clause-fits
returns-clause-fits g c block fits =
    let P = g.P.Pages in
    let k = c.plan_run.ensures in
    let copy = c.in_ok-head.ensures.copy in
    let hand = c.requires.at_hand in
    let did : c.plan_run.result ≡ Ok (Some c.in-Some.all) = search rules in
    record {
      pages = k.next ∙ (fits.pages ∙ (ap (λ (x : Contents). min x.fresh (P.homes c.args.pages.now)) (sym copy) ∙ (ap (λ (n : ℕ). min n (P.homes c.args.pages.now)) (sym k.fresh) ∙ ap (λ (n : ℕ). min c.plan_run.new.head.fresh n) (sym k.homes))));
      blocks = (let low = fits.blocks in let e = ap (λ (x : Contents). x.block) copy in let same = k.block in omega (arith, low, e, same));
      lanes = k.lanes ∙ (ap (λ (x : Contents). length x.lanes) copy ∙ c.requires.lanes);
      count = c.pass_whole.ensures.count;
      hand = λ part. (
          let same = k.stays (did ∙ ap (λ w. Ok (Some w)) part) ∙ ap (λ (x : Contents). x.lanes) copy in
          record {
            next = subst (λ (ns : List ℕ). IsNext (beyond ns c.args.sequencer.now) c.args.plan.now.front.collector) (sym (c.pass_whole.ensures.stays part)) hand.next;
            inside = (let lt = hand.inside in let n = ap (λ (ls : List Lane). length ls) same in omega (arith, lt, n));
            fits = λ lane at. hand.fits lane (ap (λ (ls : List Lane). slice_get ls c.args.plan.now.front.collector) (sym same) ∙ at);
          });
    }
