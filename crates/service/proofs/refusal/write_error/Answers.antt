use Rattle.service.proofs.Outputs.{Reports-trans}
use Rattle.service.proofs.refusal.write_error.Goals as goal

pub returns : goal.returns
returns g c = record { line = Reports-trans _ _ _ _ _ c.write_error_head.ensures.head c.text.ensures.reports }
