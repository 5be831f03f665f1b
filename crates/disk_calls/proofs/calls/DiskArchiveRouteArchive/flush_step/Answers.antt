use Rattle.disk_calls.proofs.Serving.{honest_of, same_reads}
use Rattle.disk_calls.proofs.calls.DiskArchiveRouteArchive.flush_step.Goals as goal

pub returns-in-Ok-Flushed-clause-done : goal.returns-in-Ok-Flushed-clause-done
returns-in-Ok-Flushed-clause-done g c = λ h k.
    let a = c.args.self.now.archive in record {
      goes_on = c.flush_step.ensures.holds h (λ _. k.goes_on) (c.flush_step.ensures.honest.0 (honest_of a h k.goes_on));
      reads = same_reads a c.flush_step.new.self c.args.self.now.reader c.flush_step.ensures.disk c.flush_step.ensures.blocks k.reads;
    }

pub returns-in-Ok-Clean-clause-done : goal.returns-in-Ok-Clean-clause-done
returns-in-Ok-Clean-clause-done g c = λ h k.
    let a = c.args.self.now.archive in record {
      goes_on = c.flush_step.ensures.holds h (λ _. k.goes_on) (c.flush_step.ensures.honest.0 (honest_of a h k.goes_on));
      reads = same_reads a c.flush_step.new.self c.args.self.now.reader c.flush_step.ensures.disk c.flush_step.ensures.blocks k.reads;
    }

pub returns-in-Err-clause-done : goal.returns-in-Err-clause-done
returns-in-Err-clause-done g c = λ h k.
    let a = c.args.self.now.archive in record {
      goes_on = c.flush_step.ensures.holds h (λ _. k.goes_on) (c.flush_step.ensures.honest.0 (honest_of a h k.goes_on));
      reads = same_reads a c.flush_step.new.self c.args.self.now.reader c.flush_step.ensures.disk c.flush_step.ensures.blocks k.reads;
    }
