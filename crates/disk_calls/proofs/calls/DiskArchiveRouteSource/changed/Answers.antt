use Rattle.std.proofs.Common.{Err, subst, sym}
use Rattle.archive_calls.specs.Does.{IsChangedAnswerOf}
use Rattle.archive_calls.specs.declared.refusal.AskError.{AskError as AskRefusal}
use Rattle.disk_calls.proofs.Serving.{honest_of, not_changed}
use Rattle.disk_calls.proofs.calls.DiskArchiveRouteSource.changed.Goals as goal

pub returns-in-Ok-clause-done : goal.returns-in-Ok-clause-done
returns-in-Ok-clause-done g c = λ h k.
    let honest = honest_of c.args.self.now.archive h k.goes_on in
    (c.in-Ok.ensures.below honest h (λ _. k.goes_on), c.in-Ok.ensures.answered honest h (λ _. k.goes_on) k.reads)

pub returns-in-Err-clause-done : goal.returns-in-Err-clause-done
returns-in-Err-clause-done g c = λ h k.
    let a = c.args.self.now.archive in
    subst (λ (r : AskRefusal). IsChangedAnswerOf h c.args.question (Err r)) (sym c.ask_refusal.ensures.why)
    (not_changed h c.args.question c.in-Err.refusal (c.in-Err.ensures.above (honest_of a h k.goes_on) h (λ _. k.goes_on)))

pub returns-in-Ok-clause-represents : goal.returns-in-Ok-clause-represents
returns-in-Ok-clause-represents g c = λ h k.
    let honest = honest_of c.args.self.now.archive h k.goes_on in record {
      goes_on = c.changed_by.ensures.holds h (λ _. k.goes_on) (c.changed_by.ensures.honest.0 honest);
      reads = c.changed_by.ensures.reads honest h (λ _. k.goes_on) k.reads;
    }

pub returns-in-Err-clause-represents : goal.returns-in-Err-clause-represents
returns-in-Err-clause-represents g c = λ h k.
    let honest = honest_of c.args.self.now.archive h k.goes_on in record {
      goes_on = c.changed_by.ensures.holds h (λ _. k.goes_on) (c.changed_by.ensures.honest.0 honest);
      reads = c.changed_by.ensures.reads honest h (λ _. k.goes_on) k.reads;
    }
