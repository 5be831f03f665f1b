-- A tree that takes a version.
use Rattle.std.specs.Prelude.{◌≡◌, ℕ, ◌<◌, List, Option, None, slice_get}
use Rattle.disk_models.specs.declared.once.OnceDisk.{Ghosts as OnceGhosts}
use Rattle.once_store.specs.declared.shelf.Shelf.{Shelf}
use Rattle.once_store.specs.Shelves.{next_of}
use Rattle.page_tx.specs.declared.pages.Pages.{Ghosts}
use Rattle.page_tx.specs.Start.{Start}
use Rattle.version_model.specs.Versions.{Version}
use Rattle.version_model.specs.Blocks.{BlockNode}
use Rattle.version_model.specs.Pages.{PageNode, Store}
use Rattle.worm_migration.specs.Settled.{ShelfRepresents}
use Rattle.tsb_tree.specs.declared.change.Change.{Change}
use Rattle.tsb_tree.specs.declared.tree.TreePlace.{TreePlace}
use Rattle.tsb_tree.specs.Plans.{Lays, KeepsOwn}
use Rattle.tsb_tree.specs.Trees.{TreeHas, TreeRepresented}

-- With the images laid over the pages of a store, and with the blocks that there are then, a tree lies at the place that represents these
-- versions. A page in use that represented nothing represents nothing then, and none of them is written.
pub record PlansTree {O Pen Seen : Type 0} (device : OnceGhosts O Pen Seen) (new : Shelf O Pen Seen) (homes : ℕ) (s : Store) (all : List Version) (change : Change) (place : TreePlace) : Type 0 where
  pub nodes : ℕ → Option PageNode
  pub blocks : ℕ → Option BlockNode
  pub lays : Lays homes s.nodes change nodes
  pub represents_node : ShelfRepresents device new blocks
  pub has : TreeHas (record { nodes = nodes; limit = change.unused; blocks = blocks; next = next_of new }) all place.root place.level place.least
  pub silent : (page : ℕ) → page < s.limit → s.nodes page ≡ None → nodes page ≡ None
  pub own : KeepsOwn s change

-- The pages of a transaction and the settled blocks of a shelf show a tree at the place, and it represents these versions. Pages that
-- were in use before and weren't the tree's are shown as they were, and aren't the tree's still.
pub record TakenIn {P : Type 0} (pages : Ghosts P) (new : P) {O Pen Seen : Type 0} (device : OnceGhosts O Pen Seen) (shelf : Shelf O Pen Seen) (start : Start) (shown : List (List ℕ)) (s : Store) (all : List Version) (place : TreePlace) : Type 0 where
  pub after : List (List ℕ)
  pub tree : TreeRepresented pages new device shelf start after all place.root place.level place.least
  pub others : (page : ℕ) → page < s.limit → s.nodes page ≡ None → slice_get after page ≡ slice_get shown page
  pub silent : (page : ℕ) → page < s.limit → s.nodes page ≡ None → tree.store.nodes page ≡ None
