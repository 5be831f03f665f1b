-- What a reader of blocks knows of them.
use Rattle.std.specs.Prelude.{◌≡◌, ℕ, ◌<◌, List, Option, Some}
use Rattle.disk_models.specs.declared.once.OnceDisk.{Ghosts}
use Rattle.once_store.specs.declared.reader.ShelfReader.{ShelfReader}
use Rattle.once_store.specs.Readers.{reader_disk, KnowsCached}
use Rattle.version_model.specs.declared.part.Place.{Place}
use Rattle.version_model.specs.Versions.{Version}
use Rattle.version_model.specs.Blocks.{BlockNode, PlaceRepresents}
use Rattle.tsb_node.specs.Views.{BlockRepresents}

-- what is seen of the reader's disk follows the disk's model, and each block that the reader caches is known
pub record ReadsWell {O Pen Seen : Type 0} (device : Ghosts O Pen Seen) (reader : ShelfReader O Pen Seen device) (seen : Seen) : Type 0 where
  pub honest : device.honest_seen (reader_disk reader) seen
  pub kept : KnowsCached device reader seen

-- on a disk of `count` blocks, block n is known to be settled with these octets
pub record IsKnown (known : ℕ → Option (List ℕ)) (count n : ℕ) (octets : List ℕ) : Type 0 where
  pub inside : n < count
  pub at : known n ≡ Some octets

-- each block that represents a node is known, and its octets represent that node
pub record AreKnown (known : ℕ → Option (List ℕ)) (count : ℕ) (blocks : ℕ → Option BlockNode) : Type 0 where
  pub represents_node : (n : ℕ) (node : BlockNode) → blocks n ≡ Some node → (octets : List ℕ) × IsKnown known count n octets × BlockRepresents octets node

-- the place represents these versions by blocks that are known to a reader
pub record RepresentsKnown {O Pen Seen : Type 0} (device : Ghosts O Pen Seen) (reader : ShelfReader O Pen Seen device) (seen : Seen) (all : List Version) (place : Place) : Type 0 where
  pub well : ReadsWell device reader seen
  pub blocks : ℕ → Option BlockNode
  pub known : AreKnown (device.known seen) (device.block_count (reader_disk reader)) blocks
  pub represents_all : PlaceRepresents blocks all place
