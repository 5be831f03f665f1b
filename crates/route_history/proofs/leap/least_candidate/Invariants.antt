use Rattle.route_model.specs.PeerKeys.{first_key}
use Rattle.route_history.specs.Fronts.{number_at}
use Rattle.route_history.specs.Walks.{IsLeast}
use Rattle.route_history.proofs.leap.least_candidate.Given as goal

abbrev pub invariant-loop-length : goal.invariant-loop-length
invariant-loop-length l = IsLeast (number_at l.front) (first_key l.first) l.address l.length l.least
