-- An entry as it is returned.
use Rattle.std.specs.Prelude.{Option, Some, None}
use Rattle.mrt_records.specs.Entries.{Entry}
use Rattle.mrt_records.specs.declared.entries.RibEntry.{RibEntry}

-- the entry that is returned, as clauses have it
abbrev pub shown : Option RibEntry → Option Entry
shown None = None
shown (Some entry) = Some (record { peer_index = entry.peer_index; attributes = entry.attributes.now })
