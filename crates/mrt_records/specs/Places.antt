-- Where the entries of a RIB record are in its octets.
use Rattle.std.specs.Prelude.{ℕ, ◌+◌, ◌≤◌, List, length, take, drop, map}
use Rattle.std.specs.List.{AllByRecursion}
use Rattle.mrt_records.specs.Entries.{Entry}
use Rattle.mrt_records.specs.declared.entries.Place.{Place}

-- the entry at a place in octets
abbrev pub entry_in : List ℕ → Place → Entry
entry_in octets place = record { peer_index = place.peer_index; attributes = take place.size (drop place.start octets) }

-- the place lies in the octets
abbrev pub IsWithin : List ℕ → Place → Type 0
IsWithin octets place = place.start + place.size ≤ length octets

-- all of the places lie in the octets
abbrev pub AreWithin : List ℕ → List Place → Type 0
AreWithin octets places = AllByRecursion (IsWithin octets) places

-- the entries at these places
abbrev pub entries_in : List ℕ → List Place → List Entry
entries_in octets places = map (entry_in octets) places
