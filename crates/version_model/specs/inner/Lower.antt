-- The search for a least key.
use Rattle.std.specs.Prelude.{ℕ, ◌<◌, Option, Some, None}

-- the key is below the least one so far, if there is one
abbrev pub IsLower : Option ℕ → ℕ → Type 0
IsLower None key = Unit {0}
IsLower (Some best) key = key < best
