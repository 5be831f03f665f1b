use Rattle.route_meaning.specs.History.{History}
use Rattle.tables.proofs.comparing.write_tables.Given as goal

abbrev pub invariant-places : goal.invariant-places
invariant-places g l = (h : History) → g.A.RouteSource.represents l.initial.archive h → g.A.RouteSource.represents l.archive h
