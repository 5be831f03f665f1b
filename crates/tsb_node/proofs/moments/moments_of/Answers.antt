use Rattle.std.proofs.Common.{arith}
use Rattle.route_model.proofs.api.Units.{some}
use Rattle.tsb_node.proofs.moments.moments_of.Goals as goal

pub returns-in-Some-clause-some : goal.returns-in-Some-clause-some
returns-in-Some-clause-some c = omega (arith, some c.in-Some.unit, c.moments.ensures)
