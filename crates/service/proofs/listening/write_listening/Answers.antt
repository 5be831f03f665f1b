use Rattle.service.proofs.Outputs.{Reports-trans}
use Rattle.service.proofs.listening.write_listening.Goals as goal

pub returns : goal.returns
returns g c = record {
  line = Reports-trans _ _ _ _ _ (Reports-trans _ _ _ _ _ (Reports-trans _ _ _ _ _ c.text.ensures.reports c.write_place.ensures.text) c.write_http.ensures.text) c.text-2.ensures.reports;
}
