use Rattle.std.proofs.Common.{length, refl, subst, sym, Err}
use Rattle.interleaving_core.specs.Steps.{marked}
use Rattle.archive_calls.specs.Does.{DoesMark}
use Rattle.archive_calls.specs.declared.refusal.MarkError.{MarkError as MarkRefusal}
use Rattle.disk_archive.specs.Archives.{is_down, settings_of}
use Rattle.disk_calls.proofs.Serving.{here, honest_of, not_marked, number_of, same_reads}
use Rattle.disk_calls.proofs.calls.DiskArchiveRouteArchive.mark.Goals as goal

pub returns-in-Ok-clause-done : goal.returns-in-Ok-clause-done
returns-in-Ok-clause-done g c = λ h k.
    let a = c.args.self.now.archive in
    let honest = honest_of a h k.goes_on in
    let e = c.in-Ok.ensures in (
      marked h c.args.collector c.args.mark,
      record {
        goes_on = e.ok h (λ _. k.goes_on) (c.mark.ensures.honest.0 honest);
        reads = same_reads a c.mark.new.self c.args.self.now.reader c.mark.ensures.disk c.mark.ensures.blocks k.reads;
      },
      (here (settings_of a).collectors c.args.collector (length h.intakes) (number_of a h k.goes_on) (λ past. let bad = e.no_collector.1 (e.usable, past) in cc), refl),
    )

pub returns-in-Err-clause-done : goal.returns-in-Err-clause-done
returns-in-Err-clause-done g c = λ h k.
    let a = c.args.self.now.archive in
    let honest = honest_of a h k.goes_on in
    let e = c.in-Err.ensures in (
      h,
      record {
        goes_on = e.err h (λ _. k.goes_on) (c.mark.ensures.honest.0 honest);
        reads = same_reads a c.mark.new.self c.args.self.now.reader c.mark.ensures.disk c.mark.ensures.blocks k.reads;
      },
      subst (λ (r : MarkRefusal). DoesMark c.args.collector c.args.mark (Err r) h h) (sym c.mark_refusal.ensures.why)
          (not_marked (is_down a) (settings_of a).collectors h c.args.collector c.args.mark c.in-Err.refusal (number_of a h k.goes_on) e.no_collector (e.mark_back honest h (λ _. k.goes_on))),
    )
