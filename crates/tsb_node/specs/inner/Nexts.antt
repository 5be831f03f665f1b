-- What a lookup of a key that has a value returns.
use Rattle.std.specs.Prelude.{ℕ, ◌≤◌, Bool, true, false, List, Option, Some, None}
use Rattle.version_model.specs.Versions.{Version, Answers, Has}
use Rattle.version_model.specs.Looks.{IsLive}

-- whether the key has a value as of the stamp
abbrev pub ReportsLive : List Version → ℕ → ℕ → Bool → Type 0
ReportsLive versions key s true = IsLive versions s key
ReportsLive versions key s false = Answers versions key s None

-- the least key from this one on of which there is a version that isn't after the stamp; none if there is no such version
abbrev pub IsLeastOf : List Version → ℕ → ℕ → Option ℕ → Type 0
IsLeastOf versions s from None = (v : Version) → Has versions v → from ≤ v.key → v.stamp ≤ s → ⊥
IsLeastOf versions s from (Some least) = (from ≤ least) × ((v : Version) → Has versions v → from ≤ v.key → v.stamp ≤ s → least ≤ v.key)
