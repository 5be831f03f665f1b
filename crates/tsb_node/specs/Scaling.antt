-- Nodes may be written in another unit than moments. They are read in moments.
use Rattle.std.specs.Prelude.{◌≡◌, ℕ, ◌+◌, ◌*◌, ◌/◌, ◌%◌, ◌^◌, option_map}
use Rattle.route_model.specs.declared.unit.Unit.{Unit}
use Rattle.route_model.specs.Units.{moments_in, IsUnit, unit_number}
use Rattle.version_model.specs.declared.bounds.Bounds.{Bounds}
use Rattle.version_model.specs.Versions.{Version}

-- the stamp whose time is k times that of this one
unfoldable pub scaled : ℕ → ℕ → ℕ
scaled k s = s / 2 ^ 64 * k * 2 ^ 64 + s % 2 ^ 64

-- the bounds whose times are k times those of these; an end that is missing stays missing
abbrev pub scaled_bounds : ℕ → Bounds → Bounds
scaled_bounds k b = record { low = b.low; high = b.high; start = scaled k b.start; end = option_map (scaled k) b.end }

-- the version whose time is k times that of this one
abbrev pub scaled_version : ℕ → Version → Version
scaled_version k v = record { key = v.key; stamp = scaled k v.stamp; value = v.value }

-- the number names a unit in which nodes are read
pub record IsKnownUnit (number : ℕ) : Type 0 where
  pub unit : Unit
  pub is_unit : IsUnit unit
  pub numbered : number ≡ unit_number unit

-- the node is the one that was written, in moments: each of its times counts as many as the unit has that the octets name
pub record IsInMoments {X : Type 0} (scale : ℕ → X → X) (number : ℕ) (as_written node : X) : Type 0 where
  pub known : IsKnownUnit number
  pub scaled_is : node ≡ scale (moments_in known.unit) as_written
