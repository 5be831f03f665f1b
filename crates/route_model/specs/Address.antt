-- Addresses by their octets.
use Rattle.std.specs.Prelude.{◌≡◌, ℕ, List, ◌++◌, length, replicate}
use Rattle.route_model.specs.Octets.{AreOctets}
use Rattle.route_model.specs.declared.address.Address.{Address}
use Rattle.route_model.specs.declared.address.Address.TheVariants.{V4, V6}

-- the octets of an address
abbrev pub octets : Address → List ℕ
octets (V4 o) = o
octets (V6 o) = o

-- the number of the family
abbrev pub family : Address → ℕ
family (V4 o) = 4
family (V6 o) = 6

-- the octets of an address, an IPv4 address followed by zeros
abbrev pub wide : Address → List ℕ
wide (V4 o) = o ++ replicate 12 0
wide (V6 o) = o

-- an address has as many octets as its family says
abbrev pub IsAddress : Address → Type 0
IsAddress (V4 o) = (length o ≡ 4) × AreOctets o
IsAddress (V6 o) = (length o ≡ 16) × AreOctets o
