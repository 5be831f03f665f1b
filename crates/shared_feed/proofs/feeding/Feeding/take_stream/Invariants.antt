-- of what the reader gives, what was read so far is taken
use Rattle.std.proofs.Common.{◌≡◌, ℕ, List, length}
use Rattle.std.specs.Prelude.{IsSome}
use Rattle.board.specs.Views.{View}
use Rattle.service.specs.Outputs.{OutputState}
use Rattle.service.specs.declared.limits.BatchLimits.{BatchLimits}
use Rattle.shared_feed.specs.inner.Feeding.{Reads}
use Rattle.shared_feed.proofs.Streams.{Taken}
use Rattle.shared_feed.proofs.feeding.Feeding.take_stream.Given as goal

abbrev pub invariant-loop : goal.invariant-loop
invariant-loop g l = record {
  room : length l.piece ≡ 65536;
  taken : (c : ℕ) (limit : BatchLimits) (v : View) (bytes : List ℕ) (was : OutputState) → Reads (IsSome g.N.OnDisk.disk) c limit v bytes l.initial.framer l.initial.self l.initial.pass was l.initial.out
      → Taken (IsSome g.N.OnDisk.disk) c limit v bytes (g.R.Read.remaining l.initial.reader) (g.R.Read.remaining l.reader) l.framer l.self l.pass was l.out;
}
