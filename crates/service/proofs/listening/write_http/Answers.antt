use Rattle.service.proofs.Outputs.{Reports-nil, Reports-trans}
use Rattle.service.proofs.listening.write_http.Goals as goal

pub returns-in_default : goal.returns-in_default
returns-in_default g c = record { text = rw c.in_default.is (Reports-nil _) }

pub returns : goal.returns
returns g c = record { text = rw c.in-Some.is (Reports-trans _ _ _ _ _ c.text.ensures.reports c.write_place.ensures.text) }
