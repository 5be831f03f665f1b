-- What the calls of a tree leave of a shelf, and what blocks represent then.
use Rattle.std.specs.Prelude.{◌≡◌, ◌↔◌, ◌+◌, ◌∷◌, [], ℕ, ◌≤◌, List, length, Option, Some, None, Result, Err, min, max}
use Rattle.disk_models.specs.declared.once.OnceDisk.{Ghosts as OnceGhosts}
use Rattle.disk_models.specs.Once.{OnceState, Grows as DiskGrows}
use Rattle.disk_models.specs.Left.{Left, HasSettled}
use Rattle.once_store.specs.declared.error.AppendError.TheVariants as appends
use Rattle.once_store.specs.declared.shelf.Shelf.{Shelf}
use Rattle.once_store.specs.Shelves.{AllTried, AreTriedBelow, disk_of, pen_of, next_of}
use Rattle.page_journal.specs.Recovers.{IsListed}
use Rattle.version_model.specs.Blocks.{BlockNode, Grows}
use Rattle.version_model.specs.Versions.{Version}
use Rattle.version_model.specs.Pages.{PartsRepresent}
use Rattle.version_model.specs.declared.part.Part.{Part}
use Rattle.worm_migration.specs.Columns.{old_leaf, old_column, column_part}
use Rattle.worm_migration.specs.Settled.{ShelfRepresents, with_block}
use Rattle.tsb_tree.specs.declared.error.TreeError.{TreeError}
use Rattle.tsb_tree.specs.declared.error.TreeError.TheVariants as errors
use Rattle.tsb_tree.specs.declared.burning.Burnt.{Burnt}
use Rattle.tsb_tree.specs.declared.whole.Whole.{Whole}
use Rattle.tsb_tree.specs.Wholes.{Takes, keys_of_whole}

-- no block is blank from the one on that the shelf tries next
abbrev pub HasNoneBlank : {O Pen Seen : Type 0} (device : OnceGhosts O Pen Seen) → Shelf O Pen Seen → Type 0
HasNoneBlank device shelf = AllTried (device.model (pen_of shelf)) (next_of shelf) (device.block_count (disk_of shelf))

-- at most this many blocks became tried or burnt
pub record SpendsAtMost (most : ℕ) (old new : OnceState) : Type 0 where
  pub spent : List ℕ
  pub few : length spent ≤ most
  pub tried : (i : ℕ) → (IsListed i spent → ⊥) → new.tried i ≡ old.tried i
  pub burnt : (i : ℕ) → (IsListed i spent → ⊥) → (block : List ℕ) → new.burnt i ≡ Some block → old.burnt i ≡ Some block

-- the same of one block, on a disk that follows its model
abbrev pub SpendsOne : {O Pen Seen : Type 0} (device : OnceGhosts O Pen Seen) (old new : Shelf O Pen Seen) → Type 0
SpendsOne device old new = device.honest (disk_of old) (pen_of old) → SpendsAtMost 1 (device.model (pen_of old)) (device.model (pen_of new))

-- What a disk of `count` blocks became, while the shelf's next number went from one to another, by at most `most` blocks: what was tried or
-- settled stays so, tried blocks stay below the next number, and whatever a crash leaves then, it leaves what was settled before.
pub record LeavesDisk (most count from to : ℕ) (old new : OnceState) : Type 0 where
  pub grows : DiskGrows old new
  pub spends : SpendsAtMost most old new
  pub below : AreTriedBelow old count from → AreTriedBelow new count to
  pub earlier : (left : Left) → HasSettled new left → HasSettled old left

-- What a call leaves of a shelf that puts at most `most` blocks on it. The disk stays, follows its model as before, and counts a failure
-- where the call reports one. The next number never falls, nor leaves the disk. Where the call reports that the disk is full, no blank
-- block is left.
pub record LeavesShelf {O Pen Seen : Type 0} (device : OnceGhosts O Pen Seen) (most : ℕ) (old new : Shelf O Pen Seen) (fault full : Type 0) : Type 0 where
  pub disk : disk_of new ≡ disk_of old
  pub honest : device.honest (disk_of old) (pen_of old) ↔ device.honest (disk_of old) (pen_of new)
  pub forward : next_of old ≤ next_of new
  pub within : next_of new ≤ max (next_of old) (device.block_count (disk_of old))
  pub leaves : device.honest (disk_of old) (pen_of old) → LeavesDisk most (device.block_count (disk_of old)) (next_of old) (next_of new) (device.model (pen_of old)) (device.model (pen_of new))
  pub quiet : (fault → ⊥) → device.pen_fault_count (pen_of new) ≡ device.pen_fault_count (pen_of old)
  pub counted : fault → device.pen_fault_count (pen_of new) ≡ min (device.pen_fault_count (pen_of old) + 1) 18446744073709551615
  pub none_left : device.honest (disk_of old) (pen_of old) → full → AllTried (device.model (pen_of new)) (next_of new) (device.block_count (disk_of old))

-- the same, by what a call of the tree returns
abbrev pub KeepsShelf : {O Pen Seen : Type 0} (device : OnceGhosts O Pen Seen) (most : ℕ) (old new : Shelf O Pen Seen) {T : Type 0} → Result T TreeError → Type 0
KeepsShelf device most old new result = LeavesShelf device most old new (result ≡ Err (errors.Once appends.Fault)) (result ≡ Err (errors.Once appends.OnceFull))

-- what blocks represent where a column's past has become one block, or not
abbrev pub packed : Whole → Option ℕ → (ℕ → Option BlockNode) → ℕ → Option BlockNode
packed w None blocks = blocks
packed w (Some n) blocks = with_block n (old_column (keys_of_whole w) w.start w.parts.items) blocks

-- and the parts of its past then
abbrev pub packed_parts : Whole → Option ℕ → List Part
packed_parts w None = w.parts.items
packed_parts w (Some n) = column_part n ∷ []

-- what blocks represent where, after that, a column's leaf of these versions, as it was until a stamp, has become a block
abbrev pub burnt : Whole → List Version → ℕ → Burnt → (ℕ → Option BlockNode) → ℕ → Option BlockNode
burnt w leaf at b blocks = with_block b.leaf (old_leaf (keys_of_whole w) w.start at leaf) (packed w b.column blocks)

-- From some blocks to others there is room for a part more in a column: what the first ones represented the others represent, and wherever its parts
-- represented its past, so do those that there are now.
pub record MakesRoom {O Pen Seen : Type 0} (device : OnceGhosts O Pen Seen) (new : Shelf O Pen Seen) (blocks more : ℕ → Option BlockNode) (next : ℕ) (w : Whole) (parts : List Part) : Type 0 where
  pub represents_node : ShelfRepresents device new more
  pub grows : Grows blocks more
  pub moves : (all : List Version) → PartsRepresent blocks next all (keys_of_whole w) w.start w.parts.items → PartsRepresent more (next_of new) all (keys_of_whole w) w.start parts

-- From some blocks to others a column took a version: what the first ones represented the others represent.
pub record TakesOn {O Pen Seen : Type 0} (device : OnceGhosts O Pen Seen) (new : Shelf O Pen Seen) (blocks more : ℕ → Option BlockNode) (next : ℕ) (v : Version) (w w' : Whole) : Type 0 where
  pub represents_node : ShelfRepresents device new more
  pub grows : Grows blocks more
  pub takes : Takes blocks next more (next_of new) v w w'
