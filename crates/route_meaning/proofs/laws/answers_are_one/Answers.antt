use Rattle.route_meaning.proofs.Holding.{Holds-one}
use Rattle.route_meaning.proofs.api.Ranges.{AreRows-one, rows-one, events-one}
use Rattle.route_meaning.proofs.laws.answers_are_one.Goals as goal

pub returns : goal.returns
returns c = record { route = Holds-one; range = AreRows-one; rows = rows-one; events = events-one }
