use Rattle.service.proofs.Outputs.{Reports-trans}
use Rattle.advice.proofs.saying.write_line.Goals as goal

pub returns : goal.returns
returns g c = record { line = Reports-trans _ _ _ _ _ c.text.ensures.reports (Reports-trans _ _ _ _ _ c.text-2.ensures.reports c.text-3.ensures.reports) }
