use Rattle.route_history.proofs.KeptMore.{kept_one_more, kept_before}
use Rattle.route_history.proofs.laws.kept_goes_on.Goals as goal

pub returns : goal.returns
returns c = record { more = kept_one_more; before = kept_before }
