use Rattle.std.proofs.Common.{◌≡◌}
use Rattle.route_meaning.specs.History.{History}
use Rattle.service.specs.Represented.{HasIntakes}
use Rattle.service.proofs.making_room.apply_all.Given as goal

abbrev pub invariant-loop : goal.invariant-loop
invariant-loop g l = record {
  stands : (h : History) → g.A.RouteSource.represents l.initial.archive h → HasIntakes h.intakes (g.A.RouteSource.represents l.archive);
  most : g.A.RouteArchive.most l.archive ≡ g.A.RouteArchive.most l.initial.archive;
}
