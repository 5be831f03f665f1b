use Rattle.std.proofs.Common.{◌≡◌}
use Rattle.route_meaning.specs.History.{History}
use Rattle.service.proofs.loading.flush_all.Given as goal

abbrev pub invariant-loop : goal.invariant-loop
invariant-loop g l = record {
  same : (h : History) → g.A.RouteSource.represents l.initial.archive h → g.A.RouteSource.represents l.archive h;
  most : g.A.RouteArchive.most l.archive ≡ g.A.RouteArchive.most l.initial.archive;
}
