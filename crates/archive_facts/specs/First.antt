-- The leaves that have an archive's first change.
use Rattle.std.specs.Prelude.{◌≡◌, ◌<◌, ◌*◌, ℕ, List, slice_index}
use Rattle.route_model.specs.Moments.{IsMoment}
use Rattle.route_model.specs.Octets.{number_at}
use Rattle.route_model.specs.Units.{IsUnit, moments_in, unit_number}
use Rattle.route_model.specs.declared.unit.Unit.{Unit}

-- a leaf begins so that has a version, and whose first version is of the change with the number 0, which has this time
pub record IsFirstTime (octets : List ℕ) (time : ℕ) : Type 0 where
  pub leaf : slice_index octets 0 ≡ 1
  pub unit : Unit
  pub is_unit : IsUnit unit
  pub by_unit : slice_index octets 1 ≡ unit_number unit
  pub some : 0 < number_at 2 4 octets
  pub number : number_at 8 168 octets ≡ 0
  pub time_is : time ≡ number_at 8 160 octets * moments_in unit
  pub valid : IsMoment time
