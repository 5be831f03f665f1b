use Rattle.service.proofs.Outputs.{Reports-trans}
use Rattle.service.proofs.refusal.write_refusal.Goals as goal

pub returns : goal.returns
returns g c = record { line = Reports-trans _ _ _ _ _ (Reports-trans _ _ _ _ _ c.write_head.ensures.head c.write_reported.ensures.reported) c.text.ensures.reports }
