-- Prefixes as RIB records and UPDATEs encode them (RFC 4271 section 4.3): a length in bits, and the fewest octets that hold it.
use Rattle.std.specs.Prelude.{◌≡◌, ℕ, ◌+◌, ◌-◌, ◌*◌, ◌/◌, ◌<◌, ◌≤◌, List, ◌++◌, length, drop, replicate, slice_index}
use Rattle.route_model.specs.Address.{octets, family}
use Rattle.route_model.specs.Prefix.{IpPrefix, cleared}
use Rattle.route_model.specs.declared.wire.Family.{Family}
use Rattle.route_model.specs.declared.wire.Family.TheVariants as families

-- the number by which values name a family
abbrev pub family_number : Family → ℕ
family_number families.Ipv4 = 4
family_number families.Ipv6 = 6

-- how many octets an address of the family has
abbrev pub address_size : Family → ℕ
address_size families.Ipv4 = 4
address_size families.Ipv6 = 16

-- the field is that of the prefix, whose bits past the length are cleared
pub record IsPrefixField (of : Family) (field : List ℕ) (prefix : IpPrefix) : Type 0 where
  pub some : 0 < length field
  pub family : family prefix.address ≡ family_number of
  pub bits : prefix.length ≡ slice_index field 0
  pub limit : prefix.length ≤ 8 * address_size of
  pub size : length field ≡ 1 + (prefix.length + 7) / 8
  pub address : octets prefix.address ≡ cleared prefix.length (drop 1 field ++ replicate (address_size of - (prefix.length + 7) / 8) 0)
