-- The units in which pages and blocks have their times, and how many moments one of each is. Octets are read in the unit that they
-- name, and written in one. What is proved of units rests on the laws of proofs/api/Units.antt alone, and names
-- no number of moments.
use Rattle.std.specs.Prelude.{ℕ, ⊤}
use Rattle.route_model.specs.declared.unit.Unit.{Unit}
use Rattle.route_model.specs.Moments.{micros_a_second}
use Rattle.route_model.specs.declared.unit.Unit.TheVariants.{Seconds, Microseconds}

-- how many moments one of the unit is
unfoldable pub moments_in : Unit → ℕ
moments_in Seconds = micros_a_second
moments_in Microseconds = 1

-- the unit in which all is written
unfoldable pub written : Unit
written = Microseconds

-- what is read may be of this unit
unfoldable pub IsUnit : Unit → Type 0
IsUnit Seconds = ⊤
IsUnit Microseconds = ⊤

-- the number of a unit
abbrev pub unit_number : Unit → ℕ
unit_number Seconds = 0
unit_number Microseconds = 1
