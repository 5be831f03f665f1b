use Rattle.service.proofs.Outputs.{Reports-trans, Reports-flushed}
use Rattle.service.proofs.intake.report_end.Goals as goal

pub returns : goal.returns
returns g c = record { reported = Reports-flushed _ _ _ _ (Reports-trans _ _ _ _ _ c.report_cut.ensures.reported c.write_counts.ensures.line) c.flush.ensures.reports }
