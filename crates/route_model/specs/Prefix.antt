-- Prefixes: an address and how many of its leading bits count.
use Rattle.std.specs.Prelude.{◌≡◌, ℕ, ◌+◌, ◌-◌, ◌*◌, ◌/◌, ◌%◌, ◌^◌, ◌≤◌, List, [], ◌∷◌, ◌++◌, length, take}
use Rattle.route_model.specs.Octets.{Encodes}
use Rattle.route_model.specs.declared.address.Address.{Address}
use Rattle.route_model.specs.declared.address.Address.TheVariants.{V4, V6}
use Rattle.route_model.specs.Address.{octets, family, IsAddress}

-- what a prefix is to a clause
pub record IpPrefix : Type 0 where
  pub address : Address
  pub length : ℕ

-- the octets with all bits past the first n zero
abbrev pub cleared : ℕ → List ℕ → List ℕ
cleared n [] = []
cleared n (o ∷ os) = (o - o % 2 ^ (8 - n)) ∷ cleared (n - 8) os

-- the address with all bits past the first n zero
abbrev pub cleared_address : ℕ → Address → Address
cleared_address n (V4 o) = V4 (cleared n o)
cleared_address n (V6 o) = V6 (cleared n o)

-- the length is one of its family, and all bits past it are zero
pub record IsPrefix (p : IpPrefix) : Type 0 where
  pub address : IsAddress p.address
  pub length : p.length ≤ 8 * Rattle.std.specs.Prelude.length (octets p.address)
  pub cleared : cleared_address p.length p.address ≡ p.address

-- the fewest octets that hold the bits of a prefix
abbrev pub front_octets : IpPrefix → List ℕ
front_octets p = take ((p.length + 7) / 8) (octets p.address)

-- a prefix in octets: the family, the length, and the fewest octets that hold it
abbrev pub prefix_octets : IpPrefix → List ℕ
prefix_octets p = family p.address ∷ p.length ∷ front_octets p

-- the octets are the unique encoding of the prefix
abbrev pub EncodesPrefix : IpPrefix → List ℕ → Type 0
EncodesPrefix = Encodes IsPrefix prefix_octets
