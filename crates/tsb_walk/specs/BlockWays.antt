-- The paths of lookups through settled blocks. A lookup reads of each block what it needs to go on, so a path is where the blocks lead: if
-- they are what their places require, it is the path to the leaf that has the key as of the stamp.
use Rattle.std.specs.Prelude.{◌≡◌, ℕ, ◌<◌, ◌≤◌, List, Option}
use Rattle.version_model.specs.declared.part.Place.{Place}
use Rattle.version_model.specs.Ranges.{IsPoint, range_of}
use Rattle.tsb_walk.specs.Knowing.{IsKnown}
use Rattle.tsb_walk.specs.Ways.{IsFit, LeadsTo}

-- If the place's block is what the place requires, the other place is the one to which it leads. Of other blocks it is known only that the
-- next place is in a block of a lower number, and has the key and the stamp.
pub record IsLedOn (known : ℕ → Option (List ℕ)) (count key stamp : ℕ) (place next : Place) : Type 0 where
  pub leads : (octets : List ℕ) → IsKnown known count place.part.block octets → IsFit place octets key stamp → LeadsTo place octets key stamp next
  pub lower : next.part.block < place.part.block
  pub point : IsPoint (range_of next.bounds) key stamp

-- the path of a key and a stamp from one place to another, as the blocks lead it
pub data BlockWay (known : ℕ → Option (List ℕ)) (count key stamp : ℕ) : Place → Place → Type 0 where
  here : (place : Place) → BlockWay known count key stamp place place
  further : (first place next : Place) → BlockWay known count key stamp first place → IsLedOn known count key stamp place next → BlockWay known count key stamp first next

-- each block up to this number is known
abbrev pub AreKnownTo : (ℕ → Option (List ℕ)) → ℕ → ℕ → Type 0
AreKnownTo known count number = (n : ℕ) → n ≤ number → (octets : List ℕ) × IsKnown known count n octets

-- the path comes to this block, and the block isn't what its place requires for the key and the stamp
pub record IsBadBlock (known : ℕ → Option (List ℕ)) (count key stamp : ℕ) (first : Place) (block : ℕ) : Type 0 where
  pub last : Place
  pub way : BlockWay known count key stamp first last
  pub is : last.part.block ≡ block
  pub bad : (octets : List ℕ) → IsKnown known count last.part.block octets → IsFit last octets key stamp → ⊥
