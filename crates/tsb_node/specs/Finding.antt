-- What a lookup in a leaf finds.
use Rattle.std.specs.Prelude.{ℕ, List, Option, Some, None}
use Rattle.version_model.specs.Versions.{Version, AsOf}
use Rattle.tsb_node.specs.declared.leaf.FoundVersion.{FoundVersion}

-- what was found of a key, as a version
abbrev pub version_found : ℕ → FoundVersion → Version
version_found key found = record { key = key; stamp = found.stamp; value = found.value }

-- the version that holds for the key at the stamp, or none if none does
abbrev pub Finds : List Version → ℕ → ℕ → Option FoundVersion → Type 0
Finds versions key stamp None = (v : Version) → AsOf versions key stamp v → ⊥
Finds versions key stamp (Some found) = AsOf versions key stamp (version_found key found)
