use Rattle.service.proofs.Outputs.{Reports-trans}
use Rattle.service.proofs.output.Output.moment.Goals as goal

pub returns : goal.returns
returns g c = record { reports = Reports-trans _ _ _ _ _ c.number.ensures.reports c.fraction.ensures.reports }
