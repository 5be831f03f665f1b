-- What blocks represent of a column's past, and how its parts represent versions.
use Rattle.std.specs.Prelude.{◌≡◌, ℕ, suc, ◌<◌, ◌≤◌, List, Option, Some, None, slice_get}
use Rattle.version_model.specs.declared.part.Part.{Part}
use Rattle.version_model.specs.declared.part.PartKind.TheVariants.{LeafBlock, ColumnBlock}
use Rattle.version_model.specs.declared.part.Place.{Place}
use Rattle.version_model.specs.Versions.{Version}
use Rattle.version_model.specs.Ranges.{Range, range_of}
use Rattle.version_model.specs.LeafVersions.{LeafRepresents}

-- what a settled block represents: the versions of a leaf, or the parts of a column, each with the range that the block gives
pub data BlockNode : Type 0 where
  OldLeaf : (range : Range) (versions : List Version) → BlockNode
  OldColumn : (range : Range) (parts : List Part) → BlockNode

-- one range has exactly the stamps of the other, and at least its keys
pub record IsWider (wide r : Range) : Type 0 where
  pub low : wide.low ≤ r.low
  pub high : r.high ≤ wide.high
  pub start : wide.start ≡ r.start
  pub end : r.end ≡ wide.end

-- where the part starts; without one, the end
abbrev pub start_or : ℕ → Option Part → ℕ
start_or end None = end
start_or end (Some part) = part.start

-- the range of the part at place i of a column's parts: from its start up to where the next one starts
abbrev pub range_at : Range → List Part → ℕ → Part → Range
range_at r parts i part = record { low = r.low; high = r.high; start = part.start; end = start_or r.end (slice_get parts (suc i)) }

-- the part is one of the parts, and s is its range
pub record IsPartOf (r : Range) (parts : List Part) (s : Range) (part : Part) : Type 0 where
  pub place : ℕ
  pub at : slice_get parts place ≡ Some part
  pub range : range_at r parts place part ≡ s

-- the parts follow one another from the range's start to its end, none empty, each in a block of a lower number than `block`
pub record AreParts (r : Range) (parts : List Part) (block : ℕ) : Type 0 where
  pub first : Part
  pub at_first : slice_get parts 0 ≡ Some first
  pub from_start : first.start ≡ r.start
  pub lower : (i : ℕ) (part : Part) → slice_get parts i ≡ Some part → part.block < block
  pub inside : (s : Range) (part : Part) → IsPartOf r parts s part → (s.start < s.end) × (s.end ≤ r.end)

-- The part represents the versions of the range: its block represents a leaf that shows them, or a column each of whose parts represents
-- the versions of its own range. The block may be of more keys than the range.
pub data PartRepresents (blocks : ℕ → Option BlockNode) (all : List Version) : Range → Part → Type 0 where
  by_leaf : (r : Range) (part : Part) (wide : Range) (versions : List Version) → part.kind ≡ LeafBlock → blocks part.block ≡ Some (OldLeaf wide versions) → IsWider wide r → LeafRepresents all r versions → PartRepresents blocks all r part
  by_parts : (r : Range) (part : Part) (wide : Range) (parts : List Part) → part.kind ≡ ColumnBlock → blocks part.block ≡ Some (OldColumn wide parts) → IsWider wide r → AreParts r parts part.block
      → ((s : Range) (inner : Part) → IsPartOf r parts s inner → PartRepresents blocks all s inner)
      → PartRepresents blocks all r part

-- the part at a place in the past represents the versions of the place's range
abbrev pub PlaceRepresents : (ℕ → Option BlockNode) → List Version → Place → Type 0
PlaceRepresents blocks all place = PartRepresents blocks all (range_of place.bounds) place.part

-- each block that represented something represents the same still
abbrev pub Grows : (ℕ → Option BlockNode) → (ℕ → Option BlockNode) → Type 0
Grows old new = (n : ℕ) (node : BlockNode) → old n ≡ Some node → new n ≡ Some node
