use Rattle.route_history.proofs.Leapt.{has_leapt}
use Rattle.route_history.proofs.rows.RowsCursor.leap.Goals as goal

pub returns-clause-leapt : goal.returns-clause-leapt
returns-clause-leapt c = has_leapt c.args.self.now c.in-Some.front c.leap-self.result c.in-Some.is c.leap-self.ensures
