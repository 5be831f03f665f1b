use Rattle.std.proofs.Common.{rules, ◌∙◌, ap, length, refl, subst, sym, Err}
use Rattle.std.proofs.lemmas.Option.{slice_get_within}
use Rattle.interleaving_core.specs.Steps.{given}
use Rattle.interleaving_core.proofs.api.Right.{begins_given}
use Rattle.route_meaning.proofs.api.Beginning.{Begins-refl}
use Rattle.query_threads.specs.Steps.{IsRefusal}
use Rattle.query_threads.specs.declared.refusal.AdmitError.{AdmitError as AdmitRefusal}
use Rattle.disk_archive.specs.Archives.{is_down, settings_of}
use Rattle.shared_archive.proofs.Serving.{crowded, here, honest_of, not_taken, number_of, on_same_blocks, only_full, same_blocks, taken}
use Rattle.query_threads.specs.Troubles.{OnAdmitTrouble}
use Rattle.shared_archive.specs.Reported.{Reports}
use Rattle.shared_archive.proofs.Reporting.{admit_reports}
use Rattle.shared_archive.proofs.calls.admit.Goals as goal

pub returns-in-Ok-clause-done : goal.returns-in-Ok-clause-done
returns-in-Ok-clause-done g c = λ p k.
    let a = c.args.archive.now in
    let z = c.admit.new.self in
    let h = p.history in
    let honest = honest_of a p k in
    let e = c.in-Ok.ensures in
    let after = given h c.args.collector c.args.batch.now in (
      record { history = after; blocks = p.blocks },
      on_same_blocks a p k after (begins_given h c.args.collector c.args.batch.now),
      same_blocks a p k z after c.admit.ensures.disk c.admit.ensures.blocks (e.ok h (λ _. k.goes_on) (c.admit.ensures.honest.0 honest)),
      taken h c.args.collector c.args.batch.now c.in-Ok.reply
          (here (settings_of a).collectors c.args.collector (length h.intakes) (number_of a p k) (λ past. let bad = c.admit.ensures.no_collector.1 (e.usable, past) in absurd (let ok = c.in-Ok.is in cc)))
          (e.reply honest h (λ _. k.goes_on)),
    )

pub returns-in-Err-clause-done : goal.returns-in-Err-clause-done
returns-in-Err-clause-done g c = λ p k.
    let a = c.args.archive.now in
    let z = c.admit.new.self in
    let h = p.history in
    let honest = honest_of a p k in
    let e = c.in-Err.ensures in (
      record { history = h; blocks = p.blocks },
      on_same_blocks a p k h (Begins-refl h),
      same_blocks a p k z h c.admit.ensures.disk c.admit.ensures.blocks (e.err h (λ _. k.goes_on) (c.admit.ensures.honest.0 honest)),
      (
        refl,
        subst (λ (r : AdmitRefusal). IsRefusal h c.args.collector c.args.batch.now r) (sym c.admit_refusal.ensures.why)
            (not_taken (is_down a) (settings_of a).collectors h c.args.collector c.args.batch.now c.in-Err.refusal (number_of a p k) e.no_collector e.too_large (e.counter_full honest h (λ _. k.goes_on))
            (λ is. let full = (e.intake_full honest h (λ _. k.goes_on)).0 (ap Err is) in let ring = full.3 in slice_get_within h.intakes c.args.collector ring.intake ring.here)
            (λ page is. e.undamaged honest h (λ _. k.goes_on) page (ap Err is))),
      ),
    )

pub returns-in-Err-clause-full : goal.returns-in-Err-clause-full
returns-in-Err-clause-full g c = λ p k reported.
    let a = c.args.archive.now in
    let h = p.history in
    let full = only_full c.in-Err.refusal (sym c.admit_refusal.ensures.why ∙ (let t = reported in search (rules, t))) in
    let is = (c.in-Err.ensures.intake_full (honest_of a p k) h (λ _. k.goes_on)).0 (ap Err full) in
    crowded a h c.args.collector c.args.batch.now is.3

pub returns-in-Err-clause-trouble : goal.returns-in-Err-clause-trouble
returns-in-Err-clause-trouble g c =
    let a = c.args.archive.now in
    let e = c.in-Err.ensures in
    subst (λ (r : AdmitRefusal). OnAdmitTrouble (λ t. Reports a t c.admit.new.self) r) (sym c.admit_refusal.ensures.why)
    (admit_reports a c.admit.new.self c.in-Err.refusal e.recovery e.counted e.falls (λ honest h holds page is. e.undamaged honest h holds page (ap Err is)))
