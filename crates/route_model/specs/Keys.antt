-- Keys of forty octets, and the order of peers and prefixes.
use Rattle.std.specs.Prelude.{ℕ, ◌+◌, ◌*◌, ◌^◌, List, [], ◌∷◌, ◌++◌, length, replicate}
use Rattle.std.specs.declared.cmp.Ordering.{Ordering}
use Rattle.std.specs.Ordering.{nat_cmp, ordering_then}
use Rattle.std.specs.Cmp.Lexicographic.{slice_cmp}
use Rattle.route_model.specs.declared.address.Address.{Address}
use Rattle.route_model.specs.declared.peer.Peer.{Peer}
use Rattle.route_model.specs.declared.key.KeyParts.{KeyParts}
use Rattle.route_model.specs.declared.key.KeyParts.TheVariants.{Session, Prefix as OfPrefix}
use Rattle.route_model.specs.Address.{octets, family, wide}
use Rattle.route_model.specs.Prefix.{IpPrefix, IsPrefix}
use Rattle.route_model.specs.Encoding.{IsPeer, peer_octets}

-- the key of a peer's session
abbrev pub session_key : Peer → List ℕ
session_key p = peer_octets p ++ replicate 18 0

-- the key of a peer's prefix
abbrev pub prefix_key : Peer → IpPrefix → List ℕ
prefix_key p x = peer_octets p ++ family x.address ∷ wide x.address ++ x.length ∷ []

-- the number that octets are, the first being the highest
unfoldable pub number_of : List ℕ → ℕ
number_of [] = 0
number_of (o ∷ os) = o * 256 ^ length os + number_of os

-- the key of a peer's prefix, as a number: rows of answers stand in the order of these numbers
abbrev pub key_number : Peer → IpPrefix → ℕ
key_number p x = number_of (prefix_key p x)

-- the key of a peer's session, as a number
abbrev pub session_number : Peer → ℕ
session_number p = number_of (session_key p)

-- by family, then by octets
abbrev pub address_order : Address → Address → Ordering
address_order a b = ordering_then (nat_cmp (family a) (family b)) (slice_cmp nat_cmp (octets a) (octets b))

-- by collector, address and AS number
abbrev pub peer_order : Peer → Peer → Ordering
peer_order p q = ordering_then (nat_cmp p.collector q.collector) (ordering_then (address_order p.address q.address) (nat_cmp p.as_number q.as_number))

-- by address, then by length
abbrev pub prefix_order : IpPrefix → IpPrefix → Ordering
prefix_order x y = ordering_then (address_order x.address y.address) (nat_cmp x.length y.length)

-- what a key is made of is valid
abbrev pub IsKeyParts : KeyParts → Type 0
IsKeyParts (Session p) = IsPeer p
IsKeyParts (OfPrefix p x) = IsPeer p × IsPrefix x

-- the octets of the key that is made of these
abbrev pub key_octets : KeyParts → List ℕ
key_octets (Session p) = session_key p
key_octets (OfPrefix p x) = prefix_key p x

-- the key that is made of these, as a number
abbrev pub key_of : KeyParts → ℕ
key_of parts = number_of (key_octets parts)
