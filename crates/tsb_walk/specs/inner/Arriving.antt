-- What a walk has when it comes to a leaf.
use Rattle.std.specs.Prelude.{◌≡◌, ℕ, List, Option}
use Rattle.disk_models.specs.declared.once.OnceDisk.{Ghosts}
use Rattle.once_store.specs.declared.reader.ShelfReader.{ShelfReader}
use Rattle.once_store.specs.Readers.{IsCached}
use Rattle.version_model.specs.declared.part.Place.{Place}
use Rattle.version_model.specs.Versions.{Version}
use Rattle.version_model.specs.Ranges.{range_of}
use Rattle.version_model.specs.LeafVersions.{LeafRepresents}
use Rattle.version_model.specs.declared.part.PartKind.TheVariants.{LeafBlock}
use Rattle.tsb_walk.specs.Knowing.{IsKnown}
use Rattle.tsb_walk.specs.Ways.{IsLeafFor}
use Rattle.tsb_walk.specs.BlockWays.{BlockWay}

-- each block that the reader keeps under the place's number is a leaf that shows the versions in the place's range
pub record HasLeaf {O Pen Seen : Type 0} (device : Ghosts O Pen Seen) (reader : ShelfReader O Pen Seen device) (all : List Version) (place : Place) : Type 0 where
  pub octets : List ℕ
  pub only : (block : List ℕ) → IsCached reader place.part.block block → block ≡ octets
  pub versions : List Version
  pub leaf : IsLeafFor place octets versions
  pub shows : LeafRepresents all (range_of place.bounds) versions

-- the way comes to the place of a leaf; if its block is known, the reader keeps that block alone under its number
pub record Arrives {O Pen Seen : Type 0} (device : Ghosts O Pen Seen) (reader : ShelfReader O Pen Seen device) (known : ℕ → Option (List ℕ)) (count key stamp : ℕ) (first last : Place) : Type 0 where
  pub way : BlockWay known count key stamp first last
  pub kind : last.part.kind ≡ LeafBlock
  pub only : (octets : List ℕ) → IsKnown known count last.part.block octets → (block : List ℕ) → IsCached reader last.part.block block → block ≡ octets
