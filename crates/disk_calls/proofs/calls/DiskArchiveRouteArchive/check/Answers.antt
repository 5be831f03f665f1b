use Rattle.std.proofs.Common.{ap, Err, subst, sym}
use Rattle.archive_calls.specs.Does.{IsUnchecked}
use Rattle.archive_calls.specs.declared.refusal.Trouble.{Trouble}
use Rattle.disk_calls.proofs.Serving.{honest_of, not_checked, same_reads}
use Rattle.disk_calls.proofs.calls.DiskArchiveRouteArchive.check.Goals as goal

pub returns-in-Ok-clause-done : goal.returns-in-Ok-clause-done
returns-in-Ok-clause-done g c = λ h k. c.in-Ok.ensures.counted (honest_of c.args.self.now.archive h k.goes_on) h (λ _. k.goes_on)

pub returns-in-Err-clause-done : goal.returns-in-Err-clause-done
returns-in-Err-clause-done g c = λ h k.
    let honest = honest_of c.args.self.now.archive h k.goes_on in
    let e = c.in-Err.ensures in
    subst (λ (t : Trouble). IsUnchecked h t) (sym c.check_trouble.ensures.why)
    (not_checked h c.in-Err.refusal (λ page is. e.sound honest h (λ _. k.goes_on) page (ap Err is)) (λ block is. e.undamaged honest h (λ _. k.goes_on) block (ap Err is)))

pub returns-in-Ok-clause-represents : goal.returns-in-Ok-clause-represents
returns-in-Ok-clause-represents g c = λ h k.
    let a = c.args.self.now.archive in
    let honest = honest_of a h k.goes_on in record {
      goes_on = c.check.ensures.holds h (λ _. k.goes_on) (c.check.ensures.honest.0 honest);
      reads = same_reads a c.check.new.self c.args.self.now.reader c.check.ensures.disk (c.check.ensures.blocks honest) k.reads;
    }

pub returns-in-Err-clause-represents : goal.returns-in-Err-clause-represents
returns-in-Err-clause-represents g c = λ h k.
    let a = c.args.self.now.archive in
    let honest = honest_of a h k.goes_on in record {
      goes_on = c.check.ensures.holds h (λ _. k.goes_on) (c.check.ensures.honest.0 honest);
      reads = same_reads a c.check.new.self c.args.self.now.reader c.check.ensures.disk (c.check.ensures.blocks honest) k.reads;
    }
