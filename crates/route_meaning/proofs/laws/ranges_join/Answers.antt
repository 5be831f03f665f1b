use Rattle.route_meaning.proofs.api.Ranges.{AreRows-joined}
use Rattle.route_meaning.proofs.laws.ranges_join.Goals as goal

pub returns : goal.returns
returns c = record { rows = AreRows-joined }
