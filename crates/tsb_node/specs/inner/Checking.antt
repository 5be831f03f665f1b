-- What a reader checks of a leaf's entries.
use Rattle.std.specs.Prelude.{◌≡◌, ℕ, ◌+◌, ◌<◌, List, length, take, Option, Some, None}
use Rattle.std.specs.List.{AllByRecursion}
use Rattle.version_model.specs.declared.bounds.Bounds.{Bounds}
use Rattle.version_model.specs.Versions.{Version, IsRising}
use Rattle.tsb_node.specs.declared.header.Header.{Header}
use Rattle.tsb_node.specs.Leaves.{LeafNode, IsLeaf, entry, entries, IsVersionOf}
use Rattle.tsb_node.specs.inner.Reading.{value_size, version_in}
use Rattle.tsb_node.specs.inner.Scanning.{IsWholeVersion}

-- the octets begin with an entry of a leaf of these bounds
pub record IsEncoded (b : Bounds) (bytes : List ℕ) : Type 0 where
  pub whole : IsWholeVersion bytes
  pub valid : IsVersionOf b (version_in bytes)
  pub encoded : take (59 + value_size bytes) bytes ≡ entry (version_in bytes)

-- the octets are exactly this many entries of a leaf of these bounds
pub record AreEntries (b : Bounds) (count : ℕ) (bytes : List ℕ) : Type 0 where
  pub versions : List Version
  pub each : AllByRecursion (IsVersionOf b) versions
  pub rising : IsRising versions
  pub counted : length versions ≡ count
  pub encoded : bytes ≡ entries versions

-- the stamp is above the last one, if there is one
abbrev pub IsAfter : ℕ → Option ℕ → Type 0
IsAfter stamp None = Unit {0}
IsAfter stamp (Some last) = last < stamp

-- the header and the octets of the entries are those of a leaf
pub record IsLeafOf (h : Header) (bytes : List ℕ) (leaf : LeafNode) : Type 0 where
  pub kind : h.kind ≡ 1
  pub level : h.level ≡ 0
  pub bounds : leaf.bounds ≡ h.bounds
  pub count : h.count ≡ length leaf.versions
  pub valid : IsLeaf leaf
  pub encoded : bytes ≡ entries leaf.versions
