use Rattle.route_meaning.specs.History.{History}
use Rattle.tables.proofs.changes.add_containing.Given as goal

abbrev pub invariant-loop-length : goal.invariant-loop-length
invariant-loop-length g l = (h : History) → g.A.RouteSource.represents l.initial.archive h → g.A.RouteSource.represents l.archive h
