use Rattle.route_history.proofs.SameStamps.{gathered_alike}
use Rattle.route_history.proofs.laws.gathered_alike.Goals as goal

pub returns : goal.returns
returns c = gathered_alike
