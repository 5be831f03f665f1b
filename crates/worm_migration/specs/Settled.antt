-- What the settled blocks of a write-once disk represent.
use Rattle.std.specs.Prelude.{◌≡◌, ℕ, ◌<◌, List, Option, Some, cond, nat_eq}
use Rattle.disk_models.specs.Once.{OnceState, settled_in}
use Rattle.disk_models.specs.declared.once.OnceDisk.{Ghosts}
use Rattle.once_store.specs.declared.shelf.Shelf.{Shelf}
use Rattle.once_store.specs.Shelves.{disk_of, pen_of}
use Rattle.version_model.specs.Blocks.{BlockNode}
use Rattle.tsb_node.specs.Views.{BlockRepresents}

-- on a disk of `count` blocks, block `n` is settled, and its octets represent this node
pub record IsSettledAs (o : OnceState) (count n : ℕ) (node : BlockNode) : Type 0 where
  pub inside : n < count
  pub octets : List ℕ
  pub settled : settled_in o n octets
  pub represents_node : BlockRepresents octets node

-- each block that represents something is settled, and its octets represent that
pub record AreSettled (o : OnceState) (count : ℕ) (blocks : ℕ → Option BlockNode) : Type 0 where
  pub each : (n : ℕ) (node : BlockNode) → blocks n ≡ Some node → IsSettledAs o count n node

-- what blocks represent when the block with this number represents this node
abbrev pub with_block : ℕ → BlockNode → (ℕ → Option BlockNode) → ℕ → Option BlockNode
with_block n node blocks m = cond (nat_eq m n) (Some node) (blocks m)

-- on the disk of a shelf the block with this number is settled, and its octets represent this node
abbrev pub HasSettledAs : {O Pen Seen : Type 0} (device : Ghosts O Pen Seen) → Shelf O Pen Seen → ℕ → BlockNode → Type 0
HasSettledAs device shelf n node = IsSettledAs (device.model (pen_of shelf)) (device.block_count (disk_of shelf)) n node

-- on the disk of a shelf each block that represents something is settled, and its octets represent that
abbrev pub ShelfRepresents : {O Pen Seen : Type 0} (device : Ghosts O Pen Seen) → Shelf O Pen Seen → (ℕ → Option BlockNode) → Type 0
ShelfRepresents device shelf blocks = AreSettled (device.model (pen_of shelf)) (device.block_count (disk_of shelf)) blocks
