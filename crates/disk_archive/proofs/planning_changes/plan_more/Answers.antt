use Rattle.std.proofs.Common.{rules, ◌≡◌, ◌*◌, ◌+◌, ℕ, refl, sym, ◌∙◌, ap, subst, arith, Ok, Err}
use Rattle.disk_models.specs.Once.{settled_in}
use Rattle.once_store.specs.Shelves.{pen_of}
use Rattle.disk_archive.specs.inner.Applications.{Reached, Reaches}
use Rattle.disk_archive.specs.declared.stop.Stop.TheVariants as stops
use Rattle.disk_archive.proofs.Failing.{reports_none, reports_then, reports_as}
use Rattle.disk_archive.proofs.Faults.{done_not_reported, one_reported}
use Rattle.disk_archive.proofs.Keeping.{keeps_none, keeps_then, keeps_fewer}
use Rattle.disk_archive.proofs.Reaching.{reaches_same, reaches_then}
use Rattle.disk_archive.proofs.planning_changes.plan_more.Goals as goal

pub loop-init : goal.loop-init
loop-init g c = record {
  reaches = λ start h honest r. reaches_same _ c.args.settings _ _ c.args.sequencer.now c.args.plan.now h r;
  fits = c.requires.fits;
  few = c.requires.few;
  shows = λ start shown s. (shown, s);
  shelf = keeps_none g.O.OnceDisk 0 c.args.shelf.now ⊥ (λ f. f);
  homes = refl;
  down = refl;
  honest = (λ h. h, λ h. h);
  quiet = (refl, refl);
}

pub loop-preserved : goal.loop-preserved
loop-preserved g c =
    let i = c.loop.invariant in
    let e = c.plan_another.ensures in
    let done : c.plan_another.result ≡ Ok tt = search rules in
    record {
      reaches = λ start h honest r.
          let disk = ap (λ d. g.O.OnceDisk.block_count d) i.shelf.disk in
          reaches_then _ c.args.settings _ _ _ _ c.args.sequencer.now _ _ h (i.reaches start h honest r)
          (λ m s.
          subst (λ (n : ℕ). Reaches n c.args.settings (settled_in (g.O.OnceDisk.model (pen_of c.plan_another.new.shelf))) (g.P.Pages.shows c.plan_another.new.pages start) c.args.sequencer.now c.plan_another.new.plan m) disk
          (e.reaches start m (i.shelf.honest.0 honest)
          (subst (λ (n : ℕ). Reached n c.args.settings (settled_in (g.O.OnceDisk.model (pen_of c.loop.shelf))) (g.P.Pages.shows c.loop.pages start) c.args.sequencer.now c.loop.plan m) (sym disk) s)));
      fits = e.fits;
      few = e.few;
      shows = λ start shown s. (let was = i.shows start shown s in e.shows start was.0 was.1);
      shelf = keeps_fewer g.O.OnceDisk (2 * c.loop.counter + 2) (2 * (c.loop.counter + 1)) c.args.shelf.now c.plan_another.new.shelf ⊥ (omega arith) (keeps_then g.O.OnceDisk (2 * c.loop.counter) 2 c.args.shelf.now c.loop.shelf c.plan_another.new.shelf ⊥ ⊥ i.shelf e.shelf);
      homes = e.homes ∙ i.homes;
      down = e.down ∙ i.down;
      honest = (λ h. e.honest.0 (i.honest.0 h), λ h. i.honest.1 (e.honest.1 h));
      quiet = (let more = e.failed.quiet (done_not_reported c.plan_another.result tt stops.Failed done) in (more.0 ∙ i.quiet.0, more.1 ∙ i.quiet.1));
    }

pub returns-clause-shelf : goal.returns-clause-shelf
returns-clause-shelf g c = keeps_fewer g.O.OnceDisk (2 * c.loop.counter) 1998 c.args.shelf.now c.loop.shelf ⊥ (let e = c.loop.auto.counter-end in omega (arith, e)) c.loop.invariant.shelf

pub returns-clause-failed : goal.returns-clause-failed
returns-clause-failed g c = reports_then _ _ _ _ _ _ _ c.loop.invariant.quiet (reports_none _ _ _ (λ reported. absurd cc))

-- ---- no further change

pub returns-in-Err-Enough-clause-shelf : goal.returns-in-Err-Enough-clause-shelf
returns-in-Err-Enough-clause-shelf g c =
    let i = c.loop.invariant in
    let below = c.loop-test.true in
    keeps_fewer g.O.OnceDisk (2 * c.loop.counter + 2) 1998 c.args.shelf.now c.plan_another.new.shelf ⊥ (omega (arith, below))
    (keeps_then g.O.OnceDisk (2 * c.loop.counter) 2 c.args.shelf.now c.loop.shelf c.plan_another.new.shelf ⊥ ⊥ i.shelf c.plan_another.ensures.shelf)

pub returns-in-Err-Enough-clause-reaches : goal.returns-in-Err-Enough-clause-reaches
returns-in-Err-Enough-clause-reaches g c start h honest r =
    let i = c.loop.invariant in
    let e = c.plan_another.ensures in
    let disk = ap (λ d. g.O.OnceDisk.block_count d) i.shelf.disk in
    reaches_then _ c.args.settings _ _ _ _ c.args.sequencer.now _ _ h (i.reaches start h honest r)
    (λ m s.
    subst (λ (n : ℕ). Reaches n c.args.settings (settled_in (g.O.OnceDisk.model (pen_of c.plan_another.new.shelf))) (g.P.Pages.shows c.plan_another.new.pages start) c.args.sequencer.now c.plan_another.new.plan m) disk
    (e.reaches start m (i.shelf.honest.0 honest)
    (subst (λ (n : ℕ). Reached n c.args.settings (settled_in (g.O.OnceDisk.model (pen_of c.loop.shelf))) (g.P.Pages.shows c.loop.pages start) c.args.sequencer.now c.loop.plan m) (sym disk) s)))

pub returns-in-Err-Enough-clause-failed : goal.returns-in-Err-Enough-clause-failed
returns-in-Err-Enough-clause-failed g c =
    let i = c.loop.invariant in
    let enough : c.plan_another.result ≡ Err stops.Enough = search rules in
    let more = c.plan_another.ensures.failed.quiet (λ failed. let both : stops.Enough ≡ stops.Failed = one_reported c.plan_another.result stops.Enough stops.Failed enough failed in cc) in
    reports_then _ _ _ _ _ _ _ (more.0 ∙ i.quiet.0, more.1 ∙ i.quiet.1) (reports_none _ _ _ (λ reported. absurd cc))

-- ---- a device failed

pub returns-in-Err-Failed-clause-shelf : goal.returns-in-Err-Failed-clause-shelf
returns-in-Err-Failed-clause-shelf g c =
    let i = c.loop.invariant in
    let below = c.loop-test.true in
    keeps_fewer g.O.OnceDisk (2 * c.loop.counter + 2) 1998 c.args.shelf.now c.plan_another.new.shelf ⊥ (omega (arith, below))
    (keeps_then g.O.OnceDisk (2 * c.loop.counter) 2 c.args.shelf.now c.loop.shelf c.plan_another.new.shelf ⊥ ⊥ i.shelf c.plan_another.ensures.shelf)

pub returns-in-Err-Failed-clause-failed : goal.returns-in-Err-Failed-clause-failed
returns-in-Err-Failed-clause-failed g c =
    let failed : c.plan_another.result ≡ Err stops.Failed = search rules in
    reports_then _ _ _ _ _ _ _ c.loop.invariant.quiet (reports_as _ _ _ _ _ _ (λ reported. failed) (λ f. cc) c.plan_another.ensures.failed)
