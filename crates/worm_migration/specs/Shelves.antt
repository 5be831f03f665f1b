-- What a call that puts one block on a shelf does to the shelf and to its disk, whether it is done or refused.
use Rattle.std.specs.Prelude.{◌≡◌, ◌⊎◌, ◌↔◌, ℕ, ◌+◌, ◌<◌, ◌≤◌, min, max, Option, None, Result, Ok, Err, IfOk, IsErr, IsErrOf}
use Rattle.disk_models.specs.Once.{OnceState, Grows}
use Rattle.disk_models.specs.Left.{Left, HasSettled}
use Rattle.disk_models.specs.declared.once.OnceDisk.{Ghosts}
use Rattle.once_store.specs.declared.shelf.Shelf.{Shelf}
use Rattle.once_store.specs.Shelves.{AllTried, AreTriedBelow, IsFirstBlank, Spends, HasPassed, IsAfterBlank, disk_of, pen_of, next_of}
use Rattle.version_model.specs.Blocks.{BlockNode, Grows as BlocksGrow}
use Rattle.worm_migration.specs.declared.error.MigrationError.{MigrationError}
use Rattle.worm_migration.specs.declared.error.MigrationError.TheVariants.{Fault, OnceFull, OutOfMemory}
use Rattle.worm_migration.specs.Settled.{HasSettledAs, ShelfRepresents, with_block}

-- the number of the block that a result names, or the error
abbrev pub reported : {A : Type 0} → (A → ℕ) → Result A MigrationError → Result ℕ MigrationError
reported number (Ok answer) = Ok (number answer)
reported number (Err refusal) = Err refusal

-- The disk, of `count` blocks, where the shelf's next number has gone from one to another. The returned number was that of the first blank
-- block (blank). At most one block is spent, nothing else is burnt (spends), what was settled stays so (grows), and tried blocks stay
-- below the next number (below). It is full only if no blank block is left (full), if none is left the call is refused (none_left),
-- and then the disk is as it was (same). After a failure of the device the next number has passed over tried blocks alone, or is the one
-- right after the first blank block (failed). In every outcome, whatever a crash leaves of the disk then, it leaves all that was settled
-- before (earlier).
pub record PutsBlock (count from to : ℕ) (old new : OnceState) (result : Result ℕ MigrationError) : Type 0 where
  pub blank : IfOk result (IsFirstBlank old count from)
  pub spends : Spends from to old new
  pub grows : Grows old new
  pub below : AreTriedBelow old count from → AreTriedBelow new count to
  pub full : IsErrOf result OnceFull → AllTried old from count
  pub none_left : AllTried old from count → IsErr result
  pub same : IsErrOf result OnceFull → new ≡ old
  pub failed : IsErrOf result Fault → HasPassed from to old new ⊎ IsAfterBlank old count from to
  pub earlier : (left : Left) → HasSettled new left → HasSettled old left

-- The shelf, of every disk. A returned block is the last one below the next number, which never falls nor leaves the disk. Running out of
-- memory comes before anything is tried, and leaves the shelf as it was. The disk stays, follows its model as before, and counts its
-- failures. On a disk that follows its model a block is put there, or not.
pub record KeepsShelf {O Pen Seen : Type 0} (device : Ghosts O Pen Seen) (old new : Shelf O Pen Seen) (result : Result ℕ MigrationError) : Type 0 where
  pub number : IfOk result (λ n. n < device.block_count (disk_of old))
  pub next : IfOk result (λ n. next_of new ≡ n + 1)
  pub forward : next_of old ≤ next_of new
  pub within : next_of new ≤ max (next_of old) (device.block_count (disk_of old))
  pub memory : IsErrOf result OutOfMemory → new ≡ old
  pub disk : disk_of new ≡ disk_of old
  pub honest : device.honest (disk_of old) (pen_of old) ↔ device.honest (disk_of old) (pen_of new)
  pub quiet : (IsErrOf result Fault → ⊥) → device.pen_fault_count (pen_of new) ≡ device.pen_fault_count (pen_of old)
  pub counted : IsErrOf result Fault → device.pen_fault_count (pen_of new) ≡ min (device.pen_fault_count (pen_of old) + 1) 18446744073709551615
  pub puts : device.honest (disk_of old) (pen_of old) → PutsBlock (device.block_count (disk_of old)) (next_of old) (next_of new) (device.model (pen_of old)) (device.model (pen_of new)) result

-- The block is settled and represents the node. Whatever the settled blocks of before represent, it is none of them, and they represent the same still
-- when it represents its node.
pub record SettlesAs {O Pen Seen : Type 0} (device : Ghosts O Pen Seen) (old new : Shelf O Pen Seen) (n : ℕ) (node : BlockNode) : Type 0 where
  pub settled : HasSettledAs device new n node
  pub fresh : (blocks : ℕ → Option BlockNode) → ShelfRepresents device old blocks → blocks n ≡ None
  pub represents_node : (blocks : ℕ → Option BlockNode) → ShelfRepresents device old blocks → ShelfRepresents device new (with_block n node blocks)
  pub grows : (blocks : ℕ → Option BlockNode) → ShelfRepresents device old blocks → BlocksGrow blocks (with_block n node blocks)
