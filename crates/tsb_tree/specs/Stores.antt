-- What the pages of a transaction and the blocks of a shelf represent.
use Rattle.std.specs.Prelude.{◌≡◌, ℕ, List, Result, Err}
use Rattle.disk_models.specs.declared.once.OnceDisk.{Ghosts as OnceGhosts}
use Rattle.once_store.specs.declared.shelf.Shelf.{Shelf}
use Rattle.once_store.specs.Shelves.{disk_of, pen_of, next_of}
use Rattle.page_tx.specs.declared.pages.Pages.{Ghosts}
use Rattle.page_tx.specs.declared.error.PageError.TheVariants as refusals
use Rattle.page_tx.specs.Start.{Start}
use Rattle.tsb_walk.specs.Shown.{RepresentNodes}
use Rattle.tsb_walk.specs.Refusals.{OnlyReads}
use Rattle.version_model.specs.Pages.{Store}
use Rattle.worm_migration.specs.Settled.{ShelfRepresents}
use Rattle.tsb_tree.specs.declared.error.TreeError.{TreeError}
use Rattle.tsb_tree.specs.declared.error.TreeError.TheVariants as errors

-- The call set no page, and shows the same ones. A failure of the device is counted where the call reports one.
abbrev pub ReadsAlone : {P : Type 0} (pages : Ghosts P) (old new : P) {T : Type 0} → Result T TreeError → Type 0
ReadsAlone pages old new result = OnlyReads pages old new (result ≡ Err (errors.Pages refusals.Fault))

-- the store is what the shown pages and the settled blocks represent, up to where pages and blocks are in use
pub record IsStore {P : Type 0} (pages : Ghosts P) (held : P) {O Pen Seen : Type 0} (device : OnceGhosts O Pen Seen) (shelf : Shelf O Pen Seen) (start : Start) (shown : List (List ℕ)) (s : Store) : Type 0 where
  pub shows : pages.shows held start shown
  pub reports : RepresentNodes shown s.nodes
  pub limit : s.limit ≡ pages.next held
  pub honest : device.honest (disk_of shelf) (pen_of shelf)
  pub represents_node : ShelfRepresents device shelf s.blocks
  pub next : s.next ≡ next_of shelf
