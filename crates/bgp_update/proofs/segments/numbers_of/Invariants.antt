use Rattle.std.proofs.Common.{◌≡◌, ◌+◌, ◌*◌, ◌<◌, ℕ, length, get_or}
use Rattle.route_model.specs.Octets.{number_at}
use Rattle.route_model.specs.Widths.{width_of}
use Rattle.bgp_update.proofs.segments.numbers_of.Given as goal

abbrev pub invariant-loop-i : goal.invariant-loop-i
invariant-loop-i l = record {
  so_many : length l.numbers.items ≡ l.i;
  each : (k : ℕ) → k < l.i → get_or l.numbers.items k 0 ≡ number_at (width_of l.width) (2 + width_of l.width * k) l.bytes;
}
