use Rattle.std.proofs.Common.{subst, sym}
use Rattle.route_history.specs.Walks.{IsSpotOf}
use Rattle.route_history.proofs.SpotOf.{by_parts, nothing}
use Rattle.route_history.proofs.rows.spot_of.Goals as goal

pub returns-in_default : goal.returns-in_default
returns-in_default c = nothing c.args.key c.parts.result c.parts.ensures.only c.in_default.is

pub returns : goal.returns
returns c = subst (IsSpotOf c.args.key) (sym c.spot_in.ensures) (by_parts c.args.key c.parts.result c.parts.ensures.only c.in-Some.parts c.in-Some.is c.parts.ensures.found)
