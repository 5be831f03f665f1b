use Rattle.resolve.specs.declared.without_hop.WithoutHop.{WithoutHop}
use Rattle.service.specs.Outputs.{OutputState}
use Rattle.std.proofs.Common.{◌≡◌, ◌++◌, ℕ, List, map, take}
use Rattle.route_meaning.specs.History.{History}
use Rattle.mrt_records.specs.Values.{Reported, reported}
use Rattle.service.specs.inner.Feeding.{IsAfter}
use Rattle.service.proofs.feeding.Feeding.take_all.Given as goal
use Rattle.service.specs.declared.limits.BatchLimits.{BatchLimits}

abbrev pub invariant-loop-item : goal.invariant-loop-item
invariant-loop-item g l = record {
  most : g.A.RouteArchive.most l.archive ≡ g.A.RouteArchive.most l.initial.archive;
  beyond :
      (rule : WithoutHop) (c dropped : ℕ) (limit : BatchLimits) (h : History) (records : List Reported) (was : OutputState) → IsAfter rule c dropped limit h records l.initial.self (g.A.RouteSource.represents l.initial.archive) was l.initial.out
      → IsAfter rule c dropped limit h (records ++ map reported (take l.item-index l.items)) l.self (g.A.RouteSource.represents l.archive) was l.out;
}
