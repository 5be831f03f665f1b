-- What is proved of units, whatever they are.
use Rattle.std.proofs.Common.{◌≡◌, ℕ, ◌≤◌, refl, arith}
use Rattle.route_model.specs.declared.unit.Unit.{Unit}
use Rattle.route_model.specs.declared.unit.Unit.TheVariants.{Seconds, Microseconds}
use Rattle.route_model.specs.Units.{moments_in, written, IsUnit, unit_number}

-- what is written counts single moments
pub written_one : moments_in written ≡ 1
unfolding moments_in written
written_one = refl

pub written_is : IsUnit written
unfolding IsUnit written
written_is = tt

pub some : (u : Unit) → 1 ≤ moments_in u
unfolding moments_in
some Seconds = omega arith
some Microseconds = omega arith

-- a unit has a number of its own
pub one_unit : (u v : Unit) → unit_number u ≡ unit_number v → u ≡ v
one_unit Seconds Seconds e = refl
one_unit Seconds Microseconds e = absurd (omega (arith, e))
one_unit Microseconds Seconds e = absurd (omega (arith, e))
one_unit Microseconds Microseconds e = refl
