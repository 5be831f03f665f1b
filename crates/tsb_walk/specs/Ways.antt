-- What blocks are to the places that lead to them.
use Rattle.std.specs.Prelude.{◌≡◌, ℕ, ◌<◌, ◌⊎◌, List}
use Rattle.version_model.specs.declared.part.Part.{Part}
use Rattle.version_model.specs.declared.part.PartKind.TheVariants.{LeafBlock, ColumnBlock}
use Rattle.version_model.specs.declared.part.Place.{Place}
use Rattle.version_model.specs.Versions.{Version}
use Rattle.version_model.specs.Ranges.{Range, IsPoint, range_of}
use Rattle.version_model.specs.Blocks.{OldLeaf, OldColumn, IsWider, IsPartOf}
use Rattle.tsb_node.specs.Views.{BlockRepresents}

-- the octets are a leaf of exactly the place's stamps, and of its keys at least, with these versions
pub record IsLeafFor (place : Place) (octets : List ℕ) (versions : List Version) : Type 0 where
  pub wide : Range
  pub kind : place.part.kind ≡ LeafBlock
  pub represents_node : BlockRepresents octets (OldLeaf wide versions)
  pub wider : IsWider wide (range_of place.bounds)

-- the octets are a column of exactly the place's stamps, and of its keys at least, with these parts
pub record IsColumnFor (place : Place) (octets : List ℕ) (parts : List Part) : Type 0 where
  pub wide : Range
  pub kind : place.part.kind ≡ ColumnBlock
  pub represents_node : BlockRepresents octets (OldColumn wide parts)
  pub wider : IsWider wide (range_of place.bounds)

-- the octets are such a column, and the other place is the part of it in which the key and the stamp lie, in a block of a lower number
pub record LeadsTo (place : Place) (octets : List ℕ) (key stamp : ℕ) (next : Place) : Type 0 where
  pub parts : List Part
  pub column : IsColumnFor place octets parts
  pub part : IsPartOf (range_of place.bounds) parts (range_of next.bounds) next.part
  pub lower : next.part.block < place.part.block
  pub point : IsPoint (range_of next.bounds) key stamp

-- the octets are what the place requires for the key and the stamp: such a leaf; or such a column that leads on to another place
abbrev pub IsFit : Place → List ℕ → ℕ → ℕ → Type 0
IsFit place octets key stamp = ((versions : List Version) × IsLeafFor place octets versions) ⊎ ((next : Place) × LeadsTo place octets key stamp next)
