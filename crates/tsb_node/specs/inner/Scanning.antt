-- How a look-up goes over the entries of a leaf.
use Rattle.std.specs.Prelude.{◌≡◌, ℕ, ◌+◌, ◌<◌, ◌≤◌, List, length, slice_get, Option, Some, None}
use Rattle.version_model.specs.Versions.{Version}
use Rattle.tsb_node.specs.inner.Reading.{value_size, version_in, after}

-- the version is of the key, and not after the stamp
pub record Counts (key s : ℕ) (v : Version) : Type 0 where
  pub of_key : v.key ≡ key
  pub not_after : v.stamp ≤ s

-- none of the versions from place low on and below place high counts
pub record NoneFrom (vs : List Version) (key s low high : ℕ) : Type 0 where
  pub none : (k : ℕ) (v : Version) → low ≤ k → k < high → slice_get vs k ≡ Some v → Counts key s v → ⊥

-- the version at the front is whole
abbrev pub IsWholeVersion : List ℕ → Type 0
IsWholeVersion bytes = 59 + value_size bytes ≤ length bytes

-- the bytes begin with the last of the first n versions that counts
pub record IsLastOf (vs : List Version) (bytes : List ℕ) (key s n : ℕ) (found : List ℕ) : Type 0 where
  pub place : ℕ
  pub below : place < n
  pub at : found ≡ after place bytes
  pub counts : Counts key s (version_in found)
  pub none : NoneFrom vs key s (place + 1) n
  pub whole : IsWholeVersion found

abbrev pub IsLast : List Version → List ℕ → ℕ → ℕ → ℕ → Option (List ℕ) → Type 0
IsLast vs bytes key s n None = NoneFrom vs key s 0 n
IsLast vs bytes key s n (Some found) = IsLastOf vs bytes key s n found

-- one of this many versions isn't whole
pub record IsBroken (bytes : List ℕ) (count : ℕ) : Type 0 where
  pub place : ℕ
  pub below : place < count
  pub broken : IsWholeVersion (after place bytes) → ⊥
