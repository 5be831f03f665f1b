-- What was gathered of the keys of a column that have a version in a span of stamps.
use Rattle.std.specs.Prelude.{◌≡◌, ℕ, ◌<◌, ◌≤◌, ◌⊎◌, List, [], ◌∷◌, IsSome}
use Rattle.std.specs.BTreeMap.{BTreeMap, get}
use Rattle.std.specs.Ordering.{nat_cmp}
use Rattle.version_model.specs.declared.entry.Entry.{Entry}
use Rattle.version_model.specs.Ranges.{high_or}
use Rattle.version_model.specs.Versions.{Version}
use Rattle.tsb_walk.specs.Touched.{HasWithin}
use Rattle.tree_questions.specs.declared.touching.Gathering.{Gathering}

-- the map has exactly the keys from `from` on and below `high` that have a version from the stamp `first` on and before `at`, and perhaps some that aren't below `high`
pub record IsGathered (all : List Version) (first from at high : ℕ) (keys : BTreeMap ℕ ℕ) : Type 0 where
  pub above : (key : ℕ) → IsSome (get nat_cmp keys key) → from ≤ key
  pub only : (key : ℕ) → IsSome (get nat_cmp keys key) → key < high → HasWithin all key first at
  pub each : (key : ℕ) → from ≤ key → key < high → HasWithin all key first at → IsSome (get nat_cmp keys key)

-- so far
abbrev pub HasGathered : List Version → ℕ → Gathering → Type 0
HasGathered all first g = IsGathered all first g.from g.at (high_or g.high) g.keys

-- an entry is of the key, which is one from `from` on, and of a stamp from `first` on and before `end`
abbrev pub IsEntryOf : ℕ → ℕ → ℕ → ℕ → Entry → Type 0
IsEntryOf from first end key entry = (entry.key ≡ key) × (from ≤ entry.key) × (first ≤ entry.stamp) × (entry.stamp < end)

-- one of the entries is
abbrev pub HasEntry : ℕ → ℕ → ℕ → ℕ → List Entry → Type 0
HasEntry from first end key [] = ⊥
HasEntry from first end key (entry ∷ entries) = IsEntryOf from first end key entry ⊎ HasEntry from first end key entries
