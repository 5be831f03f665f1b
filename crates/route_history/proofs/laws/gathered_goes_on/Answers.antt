use Rattle.route_history.proofs.Starting.{gathered_goes_on}
use Rattle.route_history.proofs.GoingOn.{reported_goes_on}
use Rattle.route_history.proofs.laws.gathered_goes_on.Goals as goal

pub returns : goal.returns
returns c = record { rows = gathered_goes_on; events = reported_goes_on }
