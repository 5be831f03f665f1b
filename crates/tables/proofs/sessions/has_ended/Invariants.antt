use Rattle.route_meaning.specs.History.{History}
use Rattle.tables.proofs.sessions.has_ended.Given as goal

abbrev pub invariant-pages : goal.invariant-pages
invariant-pages g l = (h : History) → g.A.RouteSource.represents l.initial.archive h → g.A.RouteSource.represents l.archive h
