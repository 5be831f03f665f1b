use Rattle.service.proofs.Outputs.{Reports-trans}
use Rattle.server.proofs.answering.write_watermark.Goals as goal

pub returns : goal.returns
returns g c = record {
  line = Reports-trans _ _ _ _ _ (Reports-trans _ _ _ _ _ c.text.ensures.reports c.moment.ensures.reports) c.text-2.ensures.reports;
}
