-- Versions of values by key and stamp, and which of them a lookup as of a stamp finds.
use Rattle.std.specs.Prelude.{◌≡◌, ℕ, ◌<◌, ◌≤◌, ◌⊎◌, List, slice_get, Option, Some, None}

-- what a key has from a stamp on: a value, or none any more (an end)
pub record Version : Type 0 where
  pub key : ℕ
  pub stamp : ℕ
  pub value : Option (List ℕ)

-- v is one of the versions
pub record Has (versions : List Version) (v : Version) : Type 0 where
  pub place : ℕ
  pub is : slice_get versions place ≡ Some v

-- v is of the key and not after the stamp s, and has the greatest stamp of all such versions
pub record AsOf (versions : List Version) (key s : ℕ) (v : Version) : Type 0 where
  pub has : Has versions v
  pub of_key : v.key ≡ key
  pub not_after : v.stamp ≤ s
  pub greatest : (w : Version) → Has versions w → w.key ≡ key → w.stamp ≤ s → w.stamp ≤ v.stamp

-- a value that was found, and the stamp of its version
pub record Found : Type 0 where
  pub stamp : ℕ
  pub value : List ℕ

-- the value found at this stamp
abbrev pub found_at : ℕ → List ℕ → Found
found_at stamp value = record { stamp = stamp; value = value }

-- the version of the key that was found
abbrev pub found_version : ℕ → Found → Version
found_version key found = record { key = key; stamp = found.stamp; value = Some found.value }

-- what a lookup of the key as of s returns: stamp and value of the version as of s, or none if that is an end or there is none
abbrev pub Answers : List Version → ℕ → ℕ → Option Found → Type 0
Answers versions key s None = (v : Version) → AsOf versions key s v → v.value ≡ None
Answers versions key s (Some found) = AsOf versions key s (found_version key found)

-- the stamps rise along the list, so no two are equal
pub record IsRising (versions : List Version) : Type 0 where
  pub rises : (i j : ℕ) (v w : Version) → i < j → slice_get versions i ≡ Some v → slice_get versions j ≡ Some w → v.stamp < w.stamp

-- the stamp is above each of the versions'
pub record IsAbove (versions : List Version) (s : ℕ) : Type 0 where
  pub above : (v : Version) → Has versions v → v.stamp < s

-- the same versions, and v besides
pub record Adds (versions : List Version) (v : Version) (new : List Version) : Type 0 where
  pub same : (w : Version) → Has new w → Has versions w ⊎ (w ≡ v)
  pub keeps : (w : Version) → Has versions w → Has new w
  pub has : Has new v

-- the same versions, and besides only such as are later than the stamp s
pub record AddsLater (versions : List Version) (s : ℕ) (new : List Version) : Type 0 where
  pub keeps : (w : Version) → Has versions w → Has new w
  pub later : (w : Version) → Has new w → Has versions w ⊎ (s < w.stamp)
