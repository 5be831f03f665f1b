use Rattle.service.proofs.Outputs.{Reports-trans}
use Rattle.service.proofs.refusal.write_reason.Goals as goal

pub returns : goal.returns
returns g c = record {
  line = Reports-trans _ _ _ _ _ (Reports-trans _ _ _ _ _ (Reports-trans _ _ _ _ _ c.write_error_head.ensures.head c.text.ensures.reports) c.text-2.ensures.reports) c.text-3.ensures.reports;
}
