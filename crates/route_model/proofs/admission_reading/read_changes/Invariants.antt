use Rattle.std.proofs.Common.{◌≡◌, ◌-◌}
use Rattle.route_model.specs.inner.Codec.{repeat}
use Rattle.route_model.specs.inner.Codec.Admissions.{change_at}
use Rattle.route_model.proofs.Loop.{with_front}
use Rattle.route_model.proofs.admission_reading.read_changes.Given as goal

abbrev pub invariant-loop : goal.invariant-loop
invariant-loop l = with_front l.items.items (repeat (change_at l.peers l.routes) (l.count - l.counter) l.rest) ≡ repeat (change_at l.peers l.routes) l.count l.bytes
