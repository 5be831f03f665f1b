use Rattle.service.proofs.Outputs.{Reports-flushed}
use Rattle.service.proofs.feeding.report_batch.Goals as goal

pub returns : goal.returns
returns g c = record { lines = Reports-flushed _ _ _ _ c.write_admitted.ensures.lines c.flush.ensures.reports }
