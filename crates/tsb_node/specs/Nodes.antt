-- What all nodes have in common: a header of 120 octets, entries, zeros, and 32 octets at the end. A node fills 16,384 octets.
use Rattle.std.specs.Prelude.{◌≡◌, ℕ, ◌+◌, ◌-◌, ◌<◌, ◌^◌, List, [], ◌∷◌, ◌++◌, length, replicate, None, IfSome, IsSome}
use Rattle.sha2.specs.Sha256.{sha256}
use Rattle.route_model.specs.Units.{written, unit_number}
use Rattle.version_model.specs.declared.bounds.Bounds.{Bounds}
use Rattle.tsb_node.specs.Numbers.{octets_of, bound_octets}

-- Some key and some stamp lie between the bounds, none of which is encoded like a missing bound: what a writer requires of bounds,
-- besides their types.
pub record AreInOrder (b : Bounds) : Type 0 where
  pub high : IfSome b.high (λ n. (n + 1 < 256 ^ 40) × (b.low < n))
  pub end : IfSome b.end (λ n. (n + 1 < 256 ^ 16) × (b.start < n))

-- bounds in order, of keys of 40 octets and stamps of 16
pub record IsBounds (b : Bounds) : Type 0 where
  pub low : b.low < 256 ^ 40
  pub start : b.start < 256 ^ 16
  pub order : AreInOrder b

-- The header: kind, number of the unit of times, level, zero, how many entries, their octets, low key, high key, start stamp, end stamp.
unfoldable pub header : ℕ → ℕ → ℕ → ℕ → ℕ → Bounds → List ℕ
header kind unit level count used b =
    (kind ∷ unit ∷ level ∷ 0 ∷ []) ++ octets_of 2 count ++ octets_of 2 used ++ octets_of 40 b.low ++ bound_octets 40 b.high ++ octets_of 16 b.start ++ bound_octets 16 b.end

-- the number of the unit in which nodes are written
abbrev pub unit_now : ℕ
unit_now = unit_number written

-- a node but for the last 32 octets: its header, its entries, and zeros
unfoldable pub body : ℕ → ℕ → ℕ → ℕ → Bounds → List ℕ → List ℕ
body unit kind level count bounds entries = header kind unit level count (length entries) bounds ++ entries ++ replicate (16232 - length entries) 0

-- a page is current, and ends in 32 zeros
pub record IsInPage (bounds : Bounds) (node octets : List ℕ) : Type 0 where
  pub current : bounds.end ≡ None
  pub encoded : octets ≡ node ++ replicate 32 0

-- a block has an end, and ends in the SHA-256 of all octets before it
pub record IsInBlock (bounds : Bounds) (node octets : List ℕ) : Type 0 where
  pub ended : IsSome bounds.end
  pub encoded : octets ≡ node ++ sha256 node
