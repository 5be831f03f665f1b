use Rattle.route_meaning.specs.History.{History}
use Rattle.tables.proofs.finding.find_ended.Given as goal

abbrev pub invariant-loop-spot : goal.invariant-loop-spot
invariant-loop-spot g l = (h : History) → g.A.RouteSource.represents l.initial.archive h → g.A.RouteSource.represents l.archive h
