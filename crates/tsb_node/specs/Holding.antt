-- Whether the octets of a leaf have as many entries as they count, whatever the entries represent.
use Rattle.std.specs.Prelude.{◌≡◌, ℕ, ◌+◌, List, ◌++◌, length, take, drop}
use Rattle.std.specs.List.{flat_map, AllByRecursion}
use Rattle.route_model.specs.Keys.{number_of}

-- 57 octets, two that encode a length, and as many more as that length
abbrev pub IsSomeEntry : List ℕ → Type 0
IsSomeEntry octets = length octets ≡ 59 + number_of (take 2 (drop 57 octets))

-- the octets begin with this many entries
pub record BeginsWithEntries (count : ℕ) (octets : List ℕ) : Type 0 where
  pub some : List (List ℕ)
  pub counted : length some ≡ count
  pub each : AllByRecursion IsSomeEntry some
  pub rest : List ℕ
  pub encoded : octets ≡ flat_map (λ one. one) some ++ rest

-- between its header and its last 32 octets a node begins with as many entries as the header counts
abbrev pub HasItsEntries : List ℕ → Type 0
HasItsEntries node = BeginsWithEntries (number_of (take 2 (drop 4 node))) (drop 120 (take 16352 node))
