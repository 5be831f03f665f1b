-- How far a walk has come while the keys of a run are taken in.
use Rattle.std.specs.Prelude.{◌≡◌, ℕ, suc, ◌≤◌, Option, Some, None}

-- the walk has not gone back, and if it was over it still is
abbrev pub IsOnward : Option ℕ → Option ℕ → Type 0
IsOnward None None = Unit {0}
IsOnward None (Some new) = ⊥
IsOnward (Some old) None = Unit {0}
IsOnward (Some old) (Some new) = old ≤ new

-- the run goes on from this key: the one after the last that it returned; or, before its first, where the walk stands or lower
abbrev pub IsFrom : ℕ → Option ℕ → Option ℕ → Type 0
IsFrom from None front = IsOnward (Some from) front
IsFrom from (Some last) front = from ≡ suc last
