-- What octets represent if they are a leaf. For other octets it is defined too, but nothing rests on it.
use Rattle.std.specs.Prelude.{ℕ, zero, suc, ◌+◌, ◌==◌, List, [], ◌∷◌, take, drop, slice_index, Option, Some, None, if◌then◌else◌}
use Rattle.tsb_node.specs.inner.Fields.{number_in}
use Rattle.version_model.specs.Versions.{Version}

-- how many octets the value at the front has, by its length
abbrev pub value_size : List ℕ → ℕ
value_size bytes = number_in 2 57 bytes

-- the value at the front, or an end
abbrev pub value_in : List ℕ → Option (List ℕ)
value_in bytes = if slice_index bytes 56 == 0 then None else Some (take (value_size bytes) (drop 59 bytes))

-- the version at the front
unfoldable pub version_in : List ℕ → Version
version_in bytes = record { key = number_in 40 0 bytes; stamp = number_in 16 40 bytes; value = value_in bytes }

-- what follows the version at the front
abbrev pub after_version : List ℕ → List ℕ
after_version bytes = drop (59 + value_size bytes) bytes

-- n versions, one after another
unfoldable pub versions_in : ℕ → List ℕ → List Version
versions_in zero bytes = []
versions_in (suc n) bytes = version_in bytes ∷ versions_in n (after_version bytes)

-- what follows the first n versions
unfoldable pub after : ℕ → List ℕ → List ℕ
after zero bytes = bytes
after (suc n) bytes = after n (after_version bytes)

-- where the entries of a node may be
abbrev pub area : List ℕ → List ℕ
area octets = drop 120 (take 16352 octets)
