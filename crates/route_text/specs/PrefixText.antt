-- The texts of prefixes.
use Rattle.std.specs.Prelude.{◌≡◌, ℕ, ◌*◌, ◌≤◌, List, ◌++◌, codes, decimal}
use Rattle.std.specs.Prelude as prelude
use Rattle.route_model.specs.declared.address.Address.{Address}
use Rattle.route_model.specs.Address.{octets}
use Rattle.route_model.specs.Prefix.{IpPrefix, cleared_address}
use Rattle.route_text.specs.AddressText.{address_text, IsAddressText}

-- what is written of a prefix: its address, a slash and its length
abbrev pub prefix_text : IpPrefix → List ℕ
prefix_text p = address_text p.address ++ codes "/" ++ decimal p.length

-- the text is an address, a slash and a length that the family has; the prefix has the address's bits up to that length
pub record IsPrefixText (text : List ℕ) (p : IpPrefix) : Type 0 where
  pub address : Address
  pub address_text : List ℕ
  pub encoded : text ≡ address_text ++ codes "/" ++ decimal p.length
  pub read : IsAddressText address_text address
  pub fits : p.length ≤ 8 * prelude.length (octets address)
  pub cleared : p.address ≡ cleared_address p.length address
