-- RIB records (RFC 6396 section 4.3.2).
use Rattle.std.specs.Prelude.{◌≡◌, ℕ, ◌≤◌, List, ◌++◌, length, drop}
use Rattle.route_model.specs.Octets.{number_at}
use Rattle.route_model.specs.Sequence.{Sequence}
use Rattle.route_model.specs.Prefix.{IpPrefix}
use Rattle.route_model.specs.declared.wire.Family.{Family}
use Rattle.route_model.specs.PrefixFields.{IsPrefixField}
use Rattle.mrt_records.specs.Entries.{Entry, IsEntryField}

-- a number, a prefix of the family, a count, and exactly that number of entries
pub record IsRib (family : Family) (bytes : List ℕ) (prefix : IpPrefix) (entries : List Entry) : Type 0 where
  pub number : List ℕ
  pub field : List ℕ
  pub rest : List ℕ
  pub parts : bytes ≡ number ++ (field ++ rest)
  pub four : length number ≡ 4
  pub is_prefix : IsPrefixField family field prefix
  pub room : 2 ≤ length rest
  pub count : length entries ≡ number_at 2 0 rest
  pub are_entries : Sequence IsEntryField (drop 2 rest) entries
