-- The bodies of messages and state changes (RFC 6396 section 4.4): two AS numbers, an interface, a
-- family, two addresses, and then a message or two states.
use Rattle.std.specs.Prelude.{◌≡◌, ℕ, ◌+◌, ◌*◌, ◌≤◌, List, length, take, drop}
use Rattle.route_model.specs.Octets.{number_at}
use Rattle.route_model.specs.declared.address.Address.{Address}
use Rattle.route_model.specs.declared.address.Address.TheVariants.{V4, V6}
use Rattle.mrt_records.specs.declared.neighbor.Neighbor.{Neighbor}
use Rattle.route_model.specs.declared.wire.AsWidth.{AsWidth}
use Rattle.route_model.specs.declared.wire.Family.{Family}
use Rattle.route_model.specs.declared.wire.Family.TheVariants as families
use Rattle.route_model.specs.PrefixFields.{address_size}
use Rattle.route_model.specs.Widths.{width_of}

-- the number that the record has for a family
abbrev pub family_code : Family → ℕ
family_code families.Ipv4 = 1
family_code families.Ipv6 = 2

-- the octets are the address, of a family
abbrev pub IsAddressOf : Family → List ℕ → Address → Type 0
IsAddressOf families.Ipv4 bytes address = address ≡ V4 bytes
IsAddressOf families.Ipv6 bytes address = address ≡ V6 bytes

-- the peer that the body names, and the octets after the two addresses
pub record IsSession (width : AsWidth) (bytes : List ℕ) (peer : Neighbor) (rest : List ℕ) : Type 0 where
  pub family : Family
  pub code : number_at 2 (2 * width_of width + 2) bytes ≡ family_code family
  pub room : 2 * width_of width + 4 + 2 * address_size family ≤ length bytes
  pub as_number : peer.as_number ≡ number_at (width_of width) 0 bytes
  pub address : IsAddressOf family (take (address_size family) (drop (2 * width_of width + 4) bytes)) peer.address
  pub beyond : rest ≡ drop (2 * width_of width + 4 + 2 * address_size family) bytes

-- one whole message, whose own Length (RFC 4271 section 4.1) is exactly that of the octets
pub record IsWholeMessage (bytes : List ℕ) : Type 0 where
  pub header : 19 ≤ length bytes
  pub length : number_at 2 16 bytes ≡ Rattle.std.specs.Prelude.length bytes

-- a session, and one whole message
pub record IsMessageBody (width : AsWidth) (bytes : List ℕ) (peer : Neighbor) (octets : List ℕ) : Type 0 where
  pub session : IsSession width bytes peer octets
  pub message : IsWholeMessage octets

-- a session, an old and a new state, and nothing more
pub record IsStateChange (width : AsWidth) (bytes : List ℕ) (peer : Neighbor) (state : ℕ) : Type 0 where
  pub states : List ℕ
  pub session : IsSession width bytes peer states
  pub two : length states ≡ 4
  pub new : state ≡ number_at 2 2 states
