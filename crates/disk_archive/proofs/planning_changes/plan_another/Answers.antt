use Rattle.std.proofs.Common.{rules, ◌≡◌, refl, sym, ◌∙◌, ap, subst, Ok, Err, false}
use Rattle.disk_models.specs.Once.{settled_in}
use Rattle.once_store.specs.Shelves.{disk_of, next_of, pen_of}
use Rattle.disk_archive.specs.declared.apply_error.ApplyError.TheVariants as applies
use Rattle.disk_archive.specs.declared.change_error.ChangeError.TheVariants as changes
use Rattle.disk_archive.specs.declared.stop.Stop.TheVariants as stops
use Rattle.disk_archive.specs.declared.planning_changes.Plan.{Plan}
use Rattle.disk_archive.specs.inner.Applications.{Reached, stop_of_change}
use Rattle.disk_archive.proofs.Failing.{reports_first, reports_none, reports_then, reports_as}
use Rattle.disk_archive.proofs.Changing.{change_failed}
use Rattle.disk_archive.proofs.Faults.{done_not_reported, one_reported}
use Rattle.disk_archive.proofs.Keeping.{keeps_reported}
use Rattle.disk_archive.proofs.Reaching.{reached_grown, reaches_one, reaches_same, reaches_then}
use Rattle.disk_archive.proofs.planning_changes.plan_another.Goals as goal

pub plan_step-requires-clause-fits : goal.plan_step-requires-clause-fits
plan_step-requires-clause-fits g c =
    let fits = c.find_front.ensures.fits (next_of c.args.shelf.now) c.requires.fits in
    search (rules, fits)

pub returns-in_err-plan_step-clause-reaches : goal.returns-in_err-plan_step-clause-reaches
returns-in_err-plan_step-clause-reaches g c start h honest r =
    let P = g.P.Pages in
    let O = g.O.OnceDisk in
    let count = O.block_count (disk_of c.args.shelf.now) in
    let few = settled_in (O.model (pen_of c.args.shelf.now)) in
    let many = settled_in (O.model (pen_of c.plan_step.new.shelf)) in
    let old = P.shows c.plan_leaf.new.pages start in
    let new = P.shows c.plan_step.new.pages start in
    let lanes = c.args.sequencer.now in
    let found = c.find_front.ensures.reached count (O.model (pen_of c.args.shelf.now)) start h r in
    let e = c.in_err-plan_step.ensures in
    reaches_then count c.args.settings few many old new lanes c.plan_leaf.new.plan c.plan_step.new.plan h
    (c.plan_leaf.ensures.reaches count (O.model (pen_of c.args.shelf.now)) start h found)
    (λ later there. reaches_same count c.args.settings many new lanes c.plan_step.new.plan later
    (subst (λ (x : Plan). Reached count c.args.settings many new lanes x later) (sym e.as_before)
    (reached_grown count c.args.settings few many old new lanes c.plan_leaf.new.plan later (c.plan_step.ensures.shelf.grows honest).settled (e.as_shown start) there)))

pub returns-clause-reaches : goal.returns-clause-reaches
returns-clause-reaches g c start h honest r =
    let P = g.P.Pages in
    let O = g.O.OnceDisk in
    let count = O.block_count (disk_of c.args.shelf.now) in
    let few = settled_in (O.model (pen_of c.args.shelf.now)) in
    let many = settled_in (O.model (pen_of c.plan_step.new.shelf)) in
    let old = P.shows c.plan_leaf.new.pages start in
    let new = P.shows c.plan_step.new.pages start in
    let lanes = c.args.sequencer.now in
    let found = c.find_front.ensures.reached count (O.model (pen_of c.args.shelf.now)) start h r in
    reaches_then count c.args.settings few many old new lanes c.plan_leaf.new.plan c.plan_step.new.plan h
    (c.plan_leaf.ensures.reaches count (O.model (pen_of c.args.shelf.now)) start h found)
    (λ later there. reaches_one count c.args.settings many new lanes c.plan_step.new.plan later (c.in_ok-plan_step.ensures.moves start later honest there))

pub returns-in_err-plan_step-clause-shelf : goal.returns-in_err-plan_step-clause-shelf
returns-in_err-plan_step-clause-shelf g c = keeps_reported g.O.OnceDisk 2 c.args.shelf.now c.plan_step.new.shelf _ ⊥ (λ never. absurd never) c.plan_step.ensures.shelf

pub returns-clause-shelf : goal.returns-clause-shelf
returns-clause-shelf g c = keeps_reported g.O.OnceDisk 2 c.args.shelf.now c.plan_step.new.shelf _ ⊥ (λ never. absurd never) c.plan_step.ensures.shelf

pub returns-in_err-plan_step-clause-shows : goal.returns-in_err-plan_step-clause-shows
returns-in_err-plan_step-clause-shows g c start shown s =
    let left = c.plan_leaf.ensures.shows start shown (c.find_front.ensures.reads start shown s) in
    c.plan_step.ensures.shows start left.0 left.1

pub returns-clause-shows : goal.returns-clause-shows
returns-clause-shows g c start shown s =
    let left = c.plan_leaf.ensures.shows start shown (c.find_front.ensures.reads start shown s) in
    c.plan_step.ensures.shows start left.0 left.1

pub returns-in_err-find_front-clause-fits : goal.returns-in_err-find_front-clause-fits
returns-in_err-find_front-clause-fits g c =
    c.find_front.ensures.fits (next_of c.args.shelf.now) c.requires.fits

pub plan_leaf-requires-clause-at_hand : goal.plan_leaf-requires-clause-at_hand
plan_leaf-requires-clause-at_hand g c =
    (c.find_front.ensures.fits (next_of c.args.shelf.now) c.requires.fits).hand c.in_ok-find_front.ensures.hand

pub returns-in_err-plan_leaf-clause-fits : goal.returns-in_err-plan_leaf-clause-fits
returns-in_err-plan_leaf-clause-fits g c =
    c.plan_leaf.ensures.fits (next_of c.args.shelf.now) (c.find_front.ensures.fits (next_of c.args.shelf.now) c.requires.fits)

pub returns-then-branch-clause-fits : goal.returns-then-branch-clause-fits
returns-then-branch-clause-fits g c =
    c.plan_leaf.ensures.fits (next_of c.args.shelf.now) (c.find_front.ensures.fits (next_of c.args.shelf.now) c.requires.fits)

-- ---- how often both disks failed

pub returns-then-images-ge-MOST_IMAGES-clause-failed : goal.returns-then-images-ge-MOST_IMAGES-clause-failed
returns-then-images-ge-MOST_IMAGES-clause-failed g c = reports_none _ _ _ (λ reported. absurd cc)

pub returns-in_err-find_front-clause-failed : goal.returns-in_err-find_front-clause-failed
returns-in_err-find_front-clause-failed g c =
    let e = c.in_err-find_front.field-0.0 in
    let r : c.find_front.result ≡ Err e = search rules in
    let d : c.from_residual.result ≡ Err e = search rules in
    reports_as _ _ _ _ _ _ (λ reported. r ∙ ap Err (one_reported c.from_residual.result e stops.Failed d reported)) (λ failed. d ∙ ap Err (one_reported c.find_front.result e stops.Failed r failed)) (reports_first _ _ _ _ _ _ c.find_front.ensures.device)

pub returns-in_err-plan_step-clause-failed : goal.returns-in_err-plan_step-clause-failed
returns-in_err-plan_step-clause-failed g c =
    let front : c.find_front.result ≡ Ok tt = search rules in
    let found = c.find_front.ensures.device.quiet (done_not_reported c.find_front.result tt stops.Failed front) in
    let none : c.plan_leaf.result ≡ Ok false = search rules in
    let left = c.plan_leaf.ensures.device.quiet (done_not_reported c.plan_leaf.result false (changes.Apply applies.Fault) none) in
    let e = c.in_err-plan_step.field-0.0 in
    let r : c.plan_step.result ≡ Err e = search rules in
    let d : c.from_residual-in_err-plan_step.result ≡ Err (stop_of_change e) = search rules in
    reports_then _ _ _ _ _ _ _ (left ∙ found, refl)
    (reports_as _ _ _ _ _ _ (λ reported. r ∙ ap Err (change_failed e (one_reported c.from_residual-in_err-plan_step.result (stop_of_change e) stops.Failed d reported))) (λ failed. d ∙ ap Err (ap stop_of_change (one_reported c.plan_step.result e (changes.Apply applies.Fault) r failed))) c.plan_step.ensures.failed)

pub returns-clause-failed : goal.returns-clause-failed
returns-clause-failed g c =
    let front : c.find_front.result ≡ Ok tt = search rules in
    let found = c.find_front.ensures.device.quiet (done_not_reported c.find_front.result tt stops.Failed front) in
    let none : c.plan_leaf.result ≡ Ok false = search rules in
    let left = c.plan_leaf.ensures.device.quiet (done_not_reported c.plan_leaf.result false (changes.Apply applies.Fault) none) in
    let r : c.plan_step.result ≡ Ok tt = search rules in
    reports_then _ _ _ _ _ _ _ (left ∙ found, refl)
    (reports_as _ _ _ _ _ _ (λ reported. absurd cc) (λ failed. absurd (done_not_reported c.plan_step.result tt (changes.Apply applies.Fault) r failed)) c.plan_step.ensures.failed)
