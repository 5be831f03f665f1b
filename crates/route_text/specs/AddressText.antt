-- The texts of addresses: the one that is written, and those that are read (RFC 4291 section 2.2, RFC 5952 section 4).
use Rattle.std.specs.Prelude.{◌≡◌, ℕ, List}
use Rattle.std.specs.Net.Addr.{segments_of, octets_of}
use Rattle.std.specs.Net.Text.{ipv4_text, hex_groups_text}
use Rattle.std.specs.Net.Grammar.{IsDotted, IsColonHex}
use Rattle.route_model.specs.declared.address.Address.{Address}
use Rattle.route_model.specs.declared.address.Address.TheVariants.{V4, V6}
use Rattle.route_model.specs.Address.{IsAddress}
use Rattle.route_text.specs.Octets.{Lacks}

-- what is written of an IPv6 address: eight groups in lower case hexadecimal with no leading zeros, the first of the
-- longest runs of two or more zero groups as `::`
abbrev pub ipv6_text : List ℕ → List ℕ
ipv6_text octets = hex_groups_text (segments_of octets)

-- what is written of an address; of an IPv4 address four decimal numbers, with dots between them
abbrev pub address_text : Address → List ℕ
address_text (V4 octets) = ipv4_text octets
address_text (V6 octets) = ipv6_text octets

-- the text is groups of one to four hexadecimal digits in either case with colons between them, eight or, on both sides
-- of one `::`, fewer, which stands for the groups that are missing, all zero; these are the octets of the groups.
-- Without a dot no text ends in an IPv4 address.
pub record IsIpv6Text (text octets : List ℕ) : Type 0 where
  pub groups : List ℕ
  pub encoded : IsColonHex text groups
  pub no_dot : Lacks 46 text
  pub value : octets ≡ octets_of groups

-- the text is one that is read as this address
abbrev pub IsAddressText : List ℕ → Address → Type 0
IsAddressText text (V4 octets) = IsDotted text octets
IsAddressText text (V6 octets) = IsIpv6Text text octets

-- each address is read again from what is written of it
abbrev pub AreReadAgain : Type 0
AreReadAgain = (address : Address) → IsAddress address → IsAddressText (address_text address) address

-- no text has two addresses
abbrev pub HaveOneAddress : Type 0
HaveOneAddress = (text : List ℕ) (a b : Address) → IsAddressText text a → IsAddressText text b → a ≡ b
