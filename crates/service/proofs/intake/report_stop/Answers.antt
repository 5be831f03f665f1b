use Rattle.service.proofs.Outputs.{Reports-flushed}
use Rattle.service.proofs.intake.report_stop.Goals as goal

pub returns : goal.returns
returns g c = record { reported = Reports-flushed _ _ _ _ (rw c.from.ensures at c.write_refusal.ensures.line) c.flush.ensures.reports }
