use Rattle.std.proofs.Common.{◌≡◌, ◌-◌, length}
use Rattle.route_model.specs.inner.Codec.{attribute_at, repeat}
use Rattle.route_model.proofs.Loop.{with_front}
use Rattle.route_model.proofs.reading.read_each_attribute.Given as goal

abbrev pub invariant-loop : goal.invariant-loop
invariant-loop l = (with_front l.items.items (repeat attribute_at (l.count - l.counter) l.rest) ≡ repeat attribute_at l.count l.bytes) × (length l.items.items ≡ l.counter)
