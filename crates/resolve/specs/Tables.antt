-- The peer table of a feed: the last one that came.
use Rattle.std.specs.Prelude.{◌≡◌, ◌⊎◌, ℕ, List, ◌∷◌, ◌++◌, Option, Some, None, Vec}
use Rattle.std.specs.declared.alloc.Global.{Global}
use Rattle.std.specs.List.{AllByRecursion}
use Rattle.mrt_records.specs.declared.neighbor.Neighbor.{Neighbor}
use Rattle.mrt_records.specs.Values.{Reported, Read, Skipped, Malformed, PeerTable, Message, StateChange, Rib}

-- the record is of type 13 and subtype 1, whether it can be read or not (RFC 6396 section 4.3.1)
abbrev pub IsPeerTableRecord : Reported → Type 0
IsPeerTableRecord (Read (PeerTable peers)) = Unit {0}
IsPeerTableRecord (Read (Message time peer width octets)) = ⊥
IsPeerTableRecord (Read (StateChange time peer state)) = ⊥
IsPeerTableRecord (Read (Rib time prefix entries)) = ⊥
IsPeerTableRecord (Skipped kind subtype) = ⊥
IsPeerTableRecord (Malformed kind subtype) = (kind ≡ 13) × (subtype ≡ 1)

-- the peers of a record that is a peer table: none if it is malformed
abbrev pub peers_of : Reported → Option (List Neighbor)
peers_of (Read (PeerTable peers)) = Some peers
peers_of (Read (Message time peer width octets)) = None
peers_of (Read (StateChange time peer state)) = None
peers_of (Read (Rib time prefix entries)) = None
peers_of (Skipped kind subtype) = None
peers_of (Malformed kind subtype) = None

-- after these records the feed has this peer table: that of the last peer table of them; none if that one is
-- malformed, or none came
abbrev pub LastTable : List Reported → Option (List Neighbor) → Type 0
LastTable records table =
    (AllByRecursion (λ r. IsPeerTableRecord r → ⊥) records × (table ≡ None))
    ⊎ ((before after : List Reported) × (last : Reported) × (records ≡ before ++ last ∷ after) × IsPeerTableRecord last
    × AllByRecursion (λ r. IsPeerTableRecord r → ⊥) after × (table ≡ peers_of last))

-- what a resolver keeps of a feed: its collector, its peer table, and how many entries were left out
pub record Feed : Type 0 where
  pub collector : ℕ
  pub table : Option (List Neighbor)
  pub left_out : ℕ

-- a peer table as a list
abbrev pub table_reported : Option (Vec Neighbor Global) → Option (List Neighbor)
table_reported None = None
table_reported (Some peers) = Some peers.items
