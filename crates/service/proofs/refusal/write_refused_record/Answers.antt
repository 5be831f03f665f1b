use Rattle.service.proofs.Outputs.{Reports-trans}
use Rattle.service.proofs.refusal.write_refused_record.Goals as goal

pub returns : goal.returns
returns g c = record {
  line = Reports-trans _ _ _ _ _ (Reports-trans _ _ _ _ _ (Reports-trans _ _ _ _ _ c.write_head.ensures.head c.text.ensures.reports) c.number.ensures.reports) c.text-2.ensures.reports;
}
