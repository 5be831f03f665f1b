-- What the entries of a leaf represent.
use Rattle.std.specs.Prelude.{List, map, option_map}
use Rattle.version_model.specs.declared.entry.Entry.{Entry}
use Rattle.version_model.specs.Versions.{Version}

-- the version that an entry represents
abbrev pub version_of : Entry → Version
version_of e = record { key = e.key; stamp = e.stamp; value = option_map (λ v. v.items) e.value }

-- the versions that entries represent, in their order
abbrev pub versions_of : List Entry → List Version
versions_of entries = map version_of entries
