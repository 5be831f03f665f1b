use Rattle.route_meaning.specs.History.{History}
use Rattle.tables.proofs.candidates.add_rows.Given as goal

abbrev pub invariant-rows : goal.invariant-rows
invariant-rows g l = (h : History) → g.A.RouteSource.represents l.initial.archive h → g.A.RouteSource.represents l.archive h
