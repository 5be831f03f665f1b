-- The entries of a RIB record.
use Rattle.std.specs.Prelude.{◌≡◌, ℕ, ◌+◌, ◌≤◌, List, length, drop}
use Rattle.route_model.specs.Octets.{number_at}

-- an entry of a RIB record: a place in the peer table, and the octets of its attributes
pub record Entry : Type 0 where
  pub peer_index : ℕ
  pub attributes : List ℕ

-- an entry's field (RFC 6396 section 4.3.4): Peer Index 2, Originated Time 4, Attribute Length 2, attributes
pub record IsEntryField (field : List ℕ) (entry : Entry) : Type 0 where
  pub room : 8 ≤ length field
  pub peer_index : entry.peer_index ≡ number_at 2 0 field
  pub size : length field ≡ 8 + number_at 2 6 field
  pub attributes : entry.attributes ≡ drop 8 field
