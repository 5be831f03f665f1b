use Rattle.std.proofs.Common.{ap, length, refl, subst, sym, Err}
use Rattle.std.proofs.lemmas.Option.{slice_get_within}
use Rattle.interleaving_core.specs.Steps.{given}
use Rattle.archive_calls.specs.Does.{IsRefusal}
use Rattle.archive_calls.specs.declared.refusal.AdmitError.{AdmitError as AdmitRefusal}
use Rattle.disk_archive.specs.Archives.{is_down, settings_of}
use Rattle.disk_calls.proofs.Serving.{here, honest_of, not_taken, number_of, same_reads, taken}
use Rattle.disk_calls.proofs.calls.DiskArchiveRouteArchive.admit.Goals as goal

pub returns-in-Ok-clause-done : goal.returns-in-Ok-clause-done
returns-in-Ok-clause-done g c = λ h k.
    let a = c.args.self.now.archive in
    let honest = honest_of a h k.goes_on in
    let e = c.in-Ok.ensures in (
      given h c.args.collector c.args.batch.now,
      record {
        goes_on = e.ok h (λ _. k.goes_on) (c.admit.ensures.honest.0 honest);
        reads = same_reads a c.admit.new.self c.args.self.now.reader c.admit.ensures.disk c.admit.ensures.blocks k.reads;
      },
      taken h c.args.collector c.args.batch.now c.in-Ok.reply
          (here (settings_of a).collectors c.args.collector (length h.intakes) (number_of a h k.goes_on) (λ past. let bad = c.admit.ensures.no_collector.1 (e.usable, past) in absurd (let ok = c.in-Ok.is in cc)))
          (e.reply honest h (λ _. k.goes_on)),
    )

pub returns-in-Err-clause-done : goal.returns-in-Err-clause-done
returns-in-Err-clause-done g c = λ h k.
    let a = c.args.self.now.archive in
    let honest = honest_of a h k.goes_on in
    let e = c.in-Err.ensures in (
      h,
      record {
        goes_on = e.err h (λ _. k.goes_on) (c.admit.ensures.honest.0 honest);
        reads = same_reads a c.admit.new.self c.args.self.now.reader c.admit.ensures.disk c.admit.ensures.blocks k.reads;
      },
      (
        refl,
        subst (λ (r : AdmitRefusal). IsRefusal h c.args.collector c.args.batch.now r) (sym c.admit_refusal.ensures.why)
            (not_taken (is_down a) (settings_of a).collectors h c.args.collector c.args.batch.now c.in-Err.refusal (number_of a h k.goes_on) e.no_collector e.too_large (e.counter_full honest h (λ _. k.goes_on))
            (λ is. let full = (e.intake_full honest h (λ _. k.goes_on)).0 (ap Err is) in let ring = full.3 in slice_get_within h.intakes c.args.collector ring.intake ring.here)),
      ),
    )
