-- AS numbers of two and of four octets (RFC 6793).
use Rattle.std.specs.Prelude.{ℕ}
use Rattle.route_model.specs.declared.wire.AsWidth.{AsWidth}
use Rattle.route_model.specs.declared.wire.AsWidth.TheVariants as widths

-- how many octets an AS number of the width has
abbrev pub width_of : AsWidth → ℕ
width_of widths.Two = 2
width_of widths.Four = 4
