use Rattle.resolve.specs.declared.without_hop.WithoutHop.{WithoutHop}
use Rattle.service.specs.Outputs.{OutputState}
use Rattle.std.proofs.Common.{◌≡◌, ℕ, List, length}
use Rattle.route_meaning.specs.History.{History}
use Rattle.service.specs.inner.Feeding.{Reads}
use Rattle.service.proofs.Streams.{Taken}
use Rattle.service.proofs.feeding.Feeding.take_stream.Given as goal
use Rattle.service.specs.declared.limits.BatchLimits.{BatchLimits}

abbrev pub invariant-loop : goal.invariant-loop
invariant-loop g l = record {
  room : length l.piece ≡ 65536;
  most : g.A.RouteArchive.most l.archive ≡ g.A.RouteArchive.most l.initial.archive;
  sound : l.reader.failed ≡ l.initial.reader.failed;
  taken : (rule : WithoutHop) (c dropped : ℕ) (limit : BatchLimits) (h : History) (bytes : List ℕ) (was : OutputState) → Reads rule c dropped limit h bytes l.initial.framer l.initial.self (g.A.RouteSource.represents l.initial.archive) was l.initial.out
      → Taken rule c dropped limit h bytes l.initial.reader.left l.reader.left l.framer l.self (g.A.RouteSource.represents l.archive) was l.out;
}
