use Rattle.std.proofs.Common.{◌≡◌, ◌-◌, length}
use Rattle.std.specs.Int.{w32}
use Rattle.route_model.specs.inner.Codec.{number_at, repeat}
use Rattle.route_model.proofs.Loop.{with_front}
use Rattle.route_model.proofs.reading.read_numbers.Given as goal

abbrev pub invariant-loop : goal.invariant-loop
invariant-loop l = (with_front l.items.items (repeat (number_at w32) (l.count - l.counter) l.rest) ≡ repeat (number_at w32) l.count l.bytes) × (length l.items.items ≡ l.counter)
