use Rattle.route_meaning.specs.History.{History}
use Rattle.tables.proofs.sessions.add_ended.Given as goal

abbrev pub invariant-loop-row : goal.invariant-loop-row
invariant-loop-row g l = (h : History) → g.A.RouteSource.represents l.initial.archive h → g.A.RouteSource.represents l.archive h
