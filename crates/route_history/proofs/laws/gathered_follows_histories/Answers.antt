use Rattle.route_history.proofs.ChangedOn.{changed_goes_on}
use Rattle.route_history.proofs.KeptLater.{rows_go_on, events_go_on}
use Rattle.route_history.proofs.laws.gathered_follows_histories.Goals as goal

pub returns : goal.returns
returns c = record { rows = rows_go_on; events = events_go_on; changed = changed_goes_on }
