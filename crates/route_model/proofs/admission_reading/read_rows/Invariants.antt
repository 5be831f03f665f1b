use Rattle.std.proofs.Common.{◌≡◌, ◌-◌}
use Rattle.route_model.specs.inner.Codec.{repeat}
use Rattle.route_model.specs.inner.Codec.Admissions.{row_at}
use Rattle.route_model.proofs.Loop.{with_front}
use Rattle.route_model.proofs.admission_reading.read_rows.Given as goal

abbrev pub invariant-loop : goal.invariant-loop
invariant-loop l = with_front l.items.items (repeat row_at (l.count - l.counter) l.rest) ≡ repeat row_at l.count l.bytes
