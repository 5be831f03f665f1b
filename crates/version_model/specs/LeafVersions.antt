-- What a leaf shows of all versions, and what becomes of it when it is split.
use Rattle.std.specs.Prelude.{ℕ, ◌<◌, ◌≤◌, List, IsSome}
use Rattle.version_model.specs.Versions.{Version, Has, AsOf}
use Rattle.version_model.specs.Ranges.{Range, IsKeyOf}

-- The leaf has every version of the range (whole). Of the range's keys it has nothing untrue (true_ones); from before the
-- start it has none but the version as of the start (copies), and that one wherever it is a value (spanning). What it has
-- of other keys, or from the range's end on, counts for nothing.
pub record LeafRepresents (all : List Version) (r : Range) (leaf : List Version) : Type 0 where
  pub whole : (v : Version) → Has all v → IsKeyOf r v.key → r.start ≤ v.stamp → v.stamp < r.end → Has leaf v
  pub true_ones : (v : Version) → Has leaf v → IsKeyOf r v.key → v.stamp < r.end → Has all v
  pub copies : (v : Version) → Has leaf v → IsKeyOf r v.key → v.stamp < r.start → AsOf all v.key r.start v
  pub spanning : (v : Version) → IsKeyOf r v.key → v.stamp < r.start → AsOf all v.key r.start v → IsSome v.value → Has leaf v

-- the leaf's versions before a stamp
pub record IsBefore (leaf : List Version) (at : ℕ) (older : List Version) : Type 0 where
  pub is_in : (v : Version) → Has older v → Has leaf v
  pub before : (v : Version) → Has older v → v.stamp < at
  pub each : (v : Version) → Has leaf v → v.stamp < at → Has older v

-- the leaf's versions from a stamp on, and of those before it just each value that the leaf has as of the stamp
pub record IsFrom (leaf : List Version) (at : ℕ) (newer : List Version) : Type 0 where
  pub is_in : (v : Version) → Has newer v → Has leaf v
  pub copies : (v : Version) → Has newer v → v.stamp < at → AsOf leaf v.key at v
  pub values : (v : Version) → Has newer v → v.stamp < at → IsSome v.value
  pub each : (v : Version) → Has leaf v → at ≤ v.stamp → Has newer v
  pub spanning : (v : Version) → v.stamp < at → AsOf leaf v.key at v → IsSome v.value → Has newer v

-- the leaf's versions of the keys below a key
pub record IsBelow (leaf : List Version) (key : ℕ) (left : List Version) : Type 0 where
  pub is_in : (v : Version) → Has left v → Has leaf v
  pub only : (v : Version) → Has left v → v.key < key
  pub each : (v : Version) → Has leaf v → v.key < key → Has left v

-- the leaf's versions of the keys from a key on
pub record IsFromKey (leaf : List Version) (key : ℕ) (right : List Version) : Type 0 where
  pub is_in : (v : Version) → Has right v → Has leaf v
  pub only : (v : Version) → Has right v → key ≤ v.key
  pub each : (v : Version) → Has leaf v → key ≤ v.key → Has right v
