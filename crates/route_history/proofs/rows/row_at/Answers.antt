use Rattle.std.proofs.Common.{subst}
use Rattle.version_model.specs.Versions.{found_at}
use Rattle.route_history.specs.Walks.{IsAskedAt, IsRouteIn}
use Rattle.route_history.proofs.RowsAt.{no_spot, no_route, there}
use Rattle.route_history.proofs.rows.row_at.Goals as goal

pub returns-in_default : goal.returns-in_default
returns-in_default c = λ all ps t answers session. no_spot all ps c.args.question.now c.args.key t (subst (IsAskedAt c.args.question.now c.args.key) c.in_default.is c.expected_at.ensures)

pub returns-in_default-2 : goal.returns-in_default-2
returns-in_default-2 c = λ all ps t answers session. no_route all ps c.args.question.now c.args.key t (found_at c.args.stamp c.args.octets.now) c.args.ended.now (subst (IsRouteIn c.args.ended.now c.args.stamp c.args.octets.now) c.in_default-2.is c.in_ok-route.ensures) answers session

pub returns : goal.returns
returns c = λ all ps t answers session. there all ps c.args.question.now c.args.key t c.in-Some.spot c.in-Some-2.route (found_at c.args.stamp c.args.octets.now) c.args.ended.now (subst (IsAskedAt c.args.question.now c.args.key) c.in-Some.is c.expected_at.ensures) (subst (IsRouteIn c.args.ended.now c.args.stamp c.args.octets.now) c.in-Some-2.is c.in_ok-route.ensures) answers session
