-- Peer tables (RFC 6396 section 4.3.1).
use Rattle.std.specs.Prelude.{◌≡◌, ℕ, ◌+◌, ◌≤◌, ◌==◌, if◌then◌else◌, bit_and, List, length, take, drop, slice_index}
use Rattle.route_model.specs.Octets.{number_at}
use Rattle.route_model.specs.Sequence.{Sequence}
use Rattle.mrt_records.specs.declared.neighbor.Neighbor.{Neighbor}
use Rattle.route_model.specs.declared.wire.AsWidth.{AsWidth}
use Rattle.route_model.specs.declared.wire.AsWidth.TheVariants as widths
use Rattle.route_model.specs.declared.wire.Family.{Family}
use Rattle.route_model.specs.declared.wire.Family.TheVariants as families
use Rattle.route_model.specs.PrefixFields.{address_size}
use Rattle.mrt_records.specs.Sessions.{IsAddressOf}
use Rattle.route_model.specs.Widths.{width_of}

-- the family of a peer's address: the lowest bit of its type is set for IPv6
abbrev pub family_of_type : ℕ → Family
family_of_type type = if bit_and type 1 == 0 then families.Ipv4 else families.Ipv6

-- the width of a peer's AS number: the next bit is set for four octets
abbrev pub width_of_type : ℕ → AsWidth
width_of_type type = if bit_and type 2 == 0 then widths.Two else widths.Four

-- a peer of such a family and width: Peer Type 1, BGP ID 4, address, AS
pub record IsNeighbor (family : Family) (width : AsWidth) (field : List ℕ) (peer : Neighbor) : Type 0 where
  pub size : length field ≡ 5 + address_size family + width_of width
  pub address : IsAddressOf family (take (address_size family) (drop 5 field)) peer.address
  pub as_number : peer.as_number ≡ number_at (width_of width) (5 + address_size family) field

-- a peer, by its own type
abbrev pub IsPeerField : List ℕ → Neighbor → Type 0
IsPeerField field peer = IsNeighbor (family_of_type (slice_index field 0)) (width_of_type (slice_index field 0)) field peer

-- an identifier, a name, a count, and exactly that number of peers
pub record IsPeerTable (bytes : List ℕ) (peers : List Neighbor) : Type 0 where
  pub name : 8 + number_at 2 4 bytes ≤ length bytes
  pub count : length peers ≡ number_at 2 (6 + number_at 2 4 bytes) bytes
  pub fields : Sequence IsPeerField (drop (8 + number_at 2 4 bytes) bytes) peers
