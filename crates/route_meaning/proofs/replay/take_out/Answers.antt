use Rattle.std.proofs.Common.{None}
use Rattle.route_meaning.proofs.Spots.{updated_as}
use Rattle.route_meaning.proofs.replay.take_out.Goals as goal

pub returns : goal.returns
returns c = updated_as c.args.table.now c.remove-route.new.self c.args.spot.now None c.remove-route.ensures.updates.0
