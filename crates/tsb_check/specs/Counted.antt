-- How versions of the past are counted when every block is read.
use Rattle.std.specs.Prelude.{◌≡◌, ℕ, ◌+◌, ◌<◌, ◌⊎◌, List, [], ◌∷◌, Option, Some, min}
use Rattle.std.specs.List.{AllByRecursion}
use Rattle.version_model.specs.declared.bounds.Bounds.{Bounds}
use Rattle.version_model.specs.declared.part.Part.{Part}
use Rattle.version_model.specs.declared.part.Place.{Place}
use Rattle.version_model.specs.Versions.{Version}
use Rattle.version_model.specs.Ranges.{range_of}
use Rattle.version_model.specs.Counts.{count_in}
use Rattle.tsb_walk.specs.Knowing.{IsKnown}
use Rattle.tsb_walk.specs.Ways.{IsLeafFor, IsColumnFor}

-- where the first of some parts starts; without one, the end
abbrev pub end_at : Option ℕ → List Part → Option ℕ
end_at end [] = end
end_at end (part ∷ parts) = Some part.start

-- the places of parts that follow one another, of the keys of bounds, each up to where the next one starts, the last one up to the bounds' end
abbrev pub places_of : Bounds → List Part → List Place
places_of bounds [] = []
places_of bounds (part ∷ parts) = record { bounds = record { low = bounds.low; high = bounds.high; start = part.start; end = end_at bounds.end parts }; part = part } ∷ places_of bounds parts

-- the item is one of the list's
abbrev pub IsOneOf : {X : Type 0} → List X → X → Type 0
IsOneOf [] x = ⊥
IsOneOf (y ∷ ys) x = (y ≡ x) ⊎ IsOneOf ys x

-- each part is in a block of a lower number
abbrev pub AreLower : ℕ → List Part → Type 0
AreLower block parts = AllByRecursion (λ part. part.block < block) parts

-- the octets are what a place asks for: a leaf for it, or a column for it whose parts are in blocks of lower numbers
abbrev pub IsSoundFor : Place → List ℕ → Type 0
IsSoundFor place octets = ((versions : List Version) × IsLeafFor place octets versions) ⊎ ((parts : List Part) × IsColumnFor place octets parts × AreLower place.part.block parts)

-- Every block of some places represents what its place asks for, and this many versions are counted: those that a leaf has of its place's keys
-- and stamps, so that copies from before the start don't count, and those of all parts of a column.
pub data AreCounted (known : ℕ → Option (List ℕ)) (count : ℕ) : List Place → ℕ → Type 0 where
  none_counted : AreCounted known count [] 0
  leaf_counted : (place : Place) (rest : List Place) (octets : List ℕ) (versions : List Version) (m : ℕ) → IsKnown known count place.part.block octets → IsLeafFor place octets versions
      → AreCounted known count rest m → AreCounted known count (place ∷ rest) (count_in versions (range_of place.bounds) + m)
  column_counted : (place : Place) (rest : List Place) (octets : List ℕ) (parts : List Part) (n m : ℕ) → IsKnown known count place.part.block octets → IsColumnFor place octets parts → AreLower place.part.block parts
      → AreCounted known count (places_of place.bounds parts) n → AreCounted known count rest m → AreCounted known count (place ∷ rest) (n + m)

-- the place is one of some places, or is that of a part of a column to which they lead
pub data IsReached (known : ℕ → Option (List ℕ)) (count : ℕ) (places : List Place) : Place → Type 0 where
  at_first : (place : Place) → IsOneOf places place → IsReached known count places place
  in_column : (place next : Place) (octets : List ℕ) (parts : List Part) → IsReached known count places place → IsKnown known count place.part.block octets → IsColumnFor place octets parts → AreLower place.part.block parts
      → IsOneOf (places_of place.bounds parts) next → IsReached known count places next

-- some places lead to a block that isn't known
pub record MeetUnknown (known : ℕ → Option (List ℕ)) (count : ℕ) (places : List Place) : Type 0 where
  pub place : Place
  pub reached : IsReached known count places place
  pub unknown : (octets : List ℕ) → IsKnown known count place.part.block octets → ⊥

-- some places lead to this block, and it isn't what its place asks for
pub record MeetDamage (known : ℕ → Option (List ℕ)) (count : ℕ) (places : List Place) (block : ℕ) : Type 0 where
  pub place : Place
  pub reached : IsReached known count places place
  pub is : place.part.block ≡ block
  pub unsound : (octets : List ℕ) → IsKnown known count place.part.block octets → IsSoundFor place octets → ⊥

-- a number as a count returns it: the greatest count where it is greater
abbrev pub reported : ℕ → ℕ
reported n = min n 18446744073709551615

-- a count of the versions of some places returns n
pub record ReportsPast (known : ℕ → Option (List ℕ)) (count : ℕ) (places : List Place) (n : ℕ) : Type 0 where
  pub total : ℕ
  pub counted : AreCounted known count places total
  pub is : n ≡ reported total
