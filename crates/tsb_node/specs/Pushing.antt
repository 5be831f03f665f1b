-- What writes in a node leave.
use Rattle.std.specs.Prelude.{◌≡◌, ℕ, ◌+◌, ◌<◌, Bool, true, false, List, [], ◌∷◌, ◌++◌, length, Option, Result, Ok, Err}
use Rattle.version_model.specs.Versions.{Version}
use Rattle.tsb_node.specs.Leaves.{LeafNode, IsLeafPage, entry, entries}

-- a version of these parts
abbrev pub version : ℕ → ℕ → Option (List ℕ) → Version
version key stamp value = record { key = key; stamp = stamp; value = value }

-- the leaf with one more version after the others
abbrev pub with_version : LeafNode → Version → LeafNode
with_version leaf v = record leaf { versions = leaf.versions ++ v ∷ [] }

-- the page has become that of the leaf with the version, or there is no room for it
abbrev pub PushedTo : {E : Type 0} → LeafNode → Version → List ℕ → Result Bool E → Type 0
PushedTo leaf v page (Ok true) = IsLeafPage (with_version leaf v) page
PushedTo leaf v page (Ok false) = 16232 < length (entries leaf.versions) + length (entry v)
PushedTo leaf v page (Err e) = ⊥

-- if nothing was pushed the page is as it was
abbrev pub StaysUnlessPushed : {E : Type 0} → List ℕ → List ℕ → Result Bool E → Type 0
StaysUnlessPushed old new (Ok true) = Unit {0}
StaysUnlessPushed old new (Ok false) = new ≡ old
StaysUnlessPushed old new (Err e) = new ≡ old
