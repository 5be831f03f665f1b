-- A change of a tree, made in memory.
use Rattle.std.specs.Prelude.{◌≡◌, ℕ, suc, ◌+◌, ◌*◌, ◌<◌, ◌≤◌, List, Option, None, length, slice_get}
use Rattle.disk_models.specs.declared.once.OnceDisk.{Ghosts as OnceGhosts}
use Rattle.once_store.specs.declared.shelf.Shelf.{Shelf}
use Rattle.once_store.specs.Shelves.{next_of}
use Rattle.page_journal.specs.Layout.{pages_of}
use Rattle.page_journal.specs.Recovers.{laid, AreBelow, AreDistinct}
use Rattle.tsb_walk.specs.Shown.{RepresentNodes}
use Rattle.version_model.specs.Versions.{Version}
use Rattle.version_model.specs.Blocks.{BlockNode}
use Rattle.version_model.specs.Pages.{Keys, PageNode, Store, NodeRepresentsIn}
use Rattle.version_model.specs.Inserts.{Splits}
use Rattle.worm_migration.specs.Settled.{ShelfRepresents}
use Rattle.tsb_tree.specs.declared.change.Change.{Change}

-- The images are of distinct pages of a map of `homes` pages. A node of this level needs two of them a level and two more, and one page that
-- was never used a level and one more.
pub record CanBeLaid (homes next level : ℕ) (change : Change) : Type 0 where
  pub distinct : AreDistinct (pages_of change.images.items)
  pub below : AreBelow homes (pages_of change.images.items)
  pub few : length change.images.items ≤ 2 * level + 2
  pub onward : next ≤ change.unused
  pub used : change.unused ≤ next + suc level
  pub inside : change.unused ≤ homes

-- where the images are laid over what shows the first nodes, the second ones are shown
abbrev pub Lays : ℕ → (ℕ → Option PageNode) → Change → (ℕ → Option PageNode) → Type 0
Lays homes nodes change nodes' = (shown : List (List ℕ)) → length shown ≡ homes → RepresentNodes shown nodes → RepresentNodes (laid change.images.items shown) nodes'

-- the images are of pages that represent something, or were never used: all others are shown as before
abbrev pub KeepsOwn : Store → Change → Type 0
KeepsOwn s change = (page : ℕ) → page < s.limit → s.nodes page ≡ None → (shown : List (List ℕ)) → slice_get (laid change.images.items shown) page ≡ slice_get shown page

-- With the images laid over the pages of a store, and with the blocks that there are then, the node at a page takes the version. A page
-- in use that represented nothing represents nothing then. Where the node represents any versions, no page but those of the tree is written.
pub record Plans {O Pen Seen : Type 0} (device : OnceGhosts O Pen Seen) (new : Shelf O Pen Seen) (homes : ℕ) (s : Store) (v : Version) (level page : ℕ) (change : Change) : Type 0 where
  pub nodes : ℕ → Option PageNode
  pub blocks : ℕ → Option BlockNode
  pub lays : Lays homes s.nodes change nodes
  pub represents_node : ShelfRepresents device new blocks
  pub splits : Splits s (record { nodes = nodes; limit = change.unused; blocks = blocks; next = next_of new }) v level page change.new
  pub silent : (p : ℕ) → p < s.limit → s.nodes p ≡ None → nodes p ≡ None
  pub own : (all : List Version) (k : Keys) → NodeRepresentsIn s all level k page → KeepsOwn s change
