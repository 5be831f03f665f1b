-- Where one block leads from a place.
use Rattle.std.specs.Prelude.{◌≡◌, ℕ, ◌<◌, List, Some, IsSome}
use Rattle.version_model.specs.declared.bounds.Bounds.{Bounds}
use Rattle.version_model.specs.declared.part.PartKind.TheVariants.{LeafBlock}
use Rattle.version_model.specs.declared.part.Place.{Place}
use Rattle.version_model.specs.Versions.{Version}
use Rattle.version_model.specs.Ranges.{IsPoint, range_of}
use Rattle.version_model.specs.Blocks.{IsWider}
use Rattle.tsb_node.specs.Leaves.{LeafNode, BeginsAsLeaf}
use Rattle.tsb_node.specs.Columns.{ColumnInBlock}
use Rattle.tsb_node.specs.Parts.{BeginsAsOldColumn}
use Rattle.tsb_walk.specs.declared.block.Step.{Step}
use Rattle.tsb_walk.specs.declared.block.Step.TheVariants.{InLeaf, Further}
use Rattle.tsb_walk.specs.Ways.{IsLeafFor, LeadsTo}

-- the octets begin as a leaf of a block, of exactly the stamps of bounds and of their keys at least
pub record IsLeafOf (bounds : Bounds) (octets : List ℕ) (leaf : LeafNode) : Type 0 where
  pub begins : BeginsAsLeaf leaf octets
  pub ended : IsSome leaf.bounds.end
  pub wider : IsWider (range_of leaf.bounds) (range_of bounds)

-- the octets begin as a column of a block with this end, of exactly the stamps of bounds and of their keys at least
pub record IsEndOf (bounds : Bounds) (octets : List ℕ) (column : ColumnInBlock) (end : ℕ) : Type 0 where
  pub begins : BeginsAsOldColumn column octets
  pub ended : column.bounds.end ≡ Some end
  pub wider : IsWider (range_of column.bounds) (range_of bounds)

-- the octets are the place's leaf, or lead to the next place
abbrev pub IsStep : Place → List ℕ → ℕ → ℕ → Step → Type 0
IsStep place octets key stamp InLeaf = (versions : List Version) × IsLeafFor place octets versions
IsStep place octets key stamp (Further next) = LeadsTo place octets key stamp next

-- the place is of a leaf; or the next place is in a block of a lower number, and the key and the stamp lie in it
abbrev pub GoesDown : Place → ℕ → ℕ → Step → Type 0
GoesDown place key stamp InLeaf = place.part.kind ≡ LeafBlock
GoesDown place key stamp (Further next) = (next.part.block < place.part.block) × IsPoint (range_of next.bounds) key stamp
