use Rattle.std.proofs.Common.{rules, ◌≡◌, ◌<◌, ℕ, length, min, sym, ◌∙◌, ap, arith, Ok, Err}
use Rattle.disk_models.specs.Once.{settled_in}
use Rattle.sequencer.proofs.api.Beyond.{next_in}
use Rattle.disk_archive.specs.declared.apply_error.ApplyError.TheVariants as applies
use Rattle.disk_archive.specs.declared.stop.Stop.TheVariants as stops
use Rattle.disk_archive.specs.inner.Applications.{stop_of}
use Rattle.disk_archive.proofs.Failing.{stop_failed}
use Rattle.disk_archive.proofs.Faults.{done_not_reported, keeps_none, keeps_reported, one_reported}
use Rattle.disk_archive.proofs.Reaching.{first_found}
use Rattle.disk_archive.proofs.planning_changes.find_front.Goals as goal

pub overflow_cast-collector : goal.overflow_cast-collector
overflow_cast-collector g c = let lt = next_in c.args.plan.now.ahead c.args.sequencer.now c.in-Some.number c.in-Some.ensures.some in let few = c.requires.few in omega (arith, lt, few)

pub front_of-requires : goal.front_of-requires
front_of-requires g c = let lt = next_in c.args.plan.now.ahead c.args.sequencer.now c.in-Some.number c.in-Some.ensures.some in let n = c.requires.lanes in omega (arith, lt, n)

pub returns-clause-reached : goal.returns-clause-reached
returns-clause-reached g c count o start h r =
    let lt = next_in c.args.plan.now.ahead c.args.sequencer.now c.in-Some.number c.in-Some.ensures.some in
    let low : c.in-Some.number < length c.args.plan.now.head.lanes = (let n = c.requires.lanes in omega (arith, lt, n)) in
    record {
      pages = r.pages;
      shown = c.front_of.ensures.reads start r.pages r.shown;
      head_represents = r.head_represents;
      mirrors = r.mirrors;
      first = λ _. first_found count c.args.settings (settled_in o) c.args.plan.now.head r.pages _ h c.in-Some.number c.time_of_next-time.result c.in_ok-admission.admission low r.head_represents r.mirrors c.in-Some.ensures.some c.time_of_next-time.ensures.time (λ lane waits at holds first. c.in_ok-admission.ensures.front start r.pages lane waits r.shown at holds first);
    }

pub returns-clause-fits : goal.returns-clause-fits
returns-clause-fits g c block fits =
    let lt = next_in c.args.plan.now.ahead c.args.sequencer.now c.in-Some.number c.in-Some.ensures.some in
    record {
      pages = c.front_of.ensures.next ∙ (fits.pages ∙ ap (λ (n : ℕ). min c.args.plan.now.head.fresh n) (sym c.front_of.ensures.homes));
      blocks = fits.blocks;
      lanes = fits.lanes;
      count = fits.count;
      hand = λ _. record { next = c.in-Some.ensures.some; inside = (let n = c.requires.lanes in omega (arith, lt, n)); fits = c.in_ok-admission.ensures.fits };
    }

-- ---- how often the device failed

pub returns-then-not-plan-clause-device : goal.returns-then-not-plan-clause-device
returns-then-not-plan-clause-device g c = keeps_none _ _ _ (λ reported. absurd cc)

pub returns-in_default-clause-device : goal.returns-in_default-clause-device
returns-in_default-clause-device g c = keeps_none _ _ _ (λ reported. absurd cc)

pub returns-in_err-admission-clause-device : goal.returns-in_err-admission-clause-device
returns-in_err-admission-clause-device g c =
    let e = c.in_err-admission.field-0.0 in
    let r : c.front_of.result ≡ Err e = search rules in
    let d : c.from_residual.result ≡ Err (stop_of e) = search rules in
    keeps_reported _ _ _ _ _ _
    (λ reported. r ∙ ap Err (stop_failed e (one_reported c.from_residual.result (stop_of e) stops.Failed d reported)))
    (λ failed. d ∙ ap Err (ap stop_of (one_reported c.front_of.result e applies.Fault r failed)))
    c.front_of.ensures.device

pub returns-clause-device : goal.returns-clause-device
returns-clause-device g c =
    let r : c.front_of.result ≡ Ok c.in_ok-admission.admission = search rules in
    keeps_reported _ _ _ _ _ _ (λ reported. absurd cc) (λ failed. absurd (done_not_reported c.front_of.result c.in_ok-admission.admission applies.Fault r failed)) c.front_of.ensures.device
