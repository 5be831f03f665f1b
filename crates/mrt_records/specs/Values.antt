-- What an item is to a clause: its fields, with lists for what it owns.
use Rattle.std.specs.Prelude.{ℕ, List}
use Rattle.route_model.specs.Prefix.{IpPrefix}
use Rattle.mrt_records.specs.declared.neighbor.Neighbor.{Neighbor}
use Rattle.route_model.specs.declared.wire.AsWidth.{AsWidth}
use Rattle.mrt_records.specs.Entries.{Entry}
use Rattle.mrt_records.specs.declared.item.Item.{Item}
use Rattle.mrt_records.specs.declared.item.Item.TheVariants as items

-- what a listed record's body represents
pub data Reading : Type 0 where
  Message : (time : ℕ) (peer : Neighbor) (width : AsWidth) (octets : List ℕ) → Reading
  StateChange : (time : ℕ) (peer : Neighbor) (state : ℕ) → Reading
  PeerTable : (peers : List Neighbor) → Reading
  Rib : (time : ℕ) (prefix : IpPrefix) (entries : List Entry) → Reading

-- what a record is reported as
pub data Reported : Type 0 where
  Read : (reading : Reading) → Reported
  Skipped : (kind subtype : ℕ) → Reported
  Malformed : (kind subtype : ℕ) → Reported

-- what an item reports
abbrev pub reported : Item → Reported
reported (items.Message time peer width octets) = Read (Message time peer width octets.items)
reported (items.StateChange time peer state) = Read (StateChange time peer state)
reported (items.PeerTable peers) = Read (PeerTable peers.items)
reported (items.Rib time prefix entries) = Read (Rib time prefix entries)
reported (items.Skipped kind subtype) = Skipped kind subtype
reported (items.Malformed kind subtype) = Malformed kind subtype
