use Rattle.std.proofs.Common.{◌≡◌, ◌-◌, length}
use Rattle.route_model.specs.inner.Codec.{segment_at, repeat}
use Rattle.route_model.proofs.Loop.{with_front}
use Rattle.route_model.proofs.reading.read_segments.Given as goal

abbrev pub invariant-loop : goal.invariant-loop
invariant-loop l = (with_front l.items.items (repeat segment_at (l.count - l.counter) l.rest) ≡ repeat segment_at l.count l.bytes) × (length l.items.items ≡ l.counter)
