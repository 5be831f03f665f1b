use Rattle.route_meaning.specs.History.{History}
use Rattle.tables.proofs.comparing.write_places.Given as goal

abbrev pub invariant-loop-place : goal.invariant-loop-place
invariant-loop-place g l = (h : History) → g.A.RouteSource.represents l.initial.archive h → g.A.RouteSource.represents l.archive h
