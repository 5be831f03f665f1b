use Rattle.service.proofs.Outputs.{Reports-flushed}
use Rattle.service.proofs.feeding.report_refused.Goals as goal

pub returns : goal.returns
returns g c = record { line = Reports-flushed _ _ _ _ (rw c.from.ensures at c.write_refused_record.ensures.line) c.flush.ensures.reports }
