-- A tree, and the versions that it represents.
use Rattle.std.specs.Prelude.{◌≡◌, ℕ, ◌+◌, ◌<◌, ◌≤◌, List, [], Option, None, length, slice_set}
use Rattle.page_journal.specs.Layout.{Image, pages_of}
use Rattle.page_journal.specs.Recovers.{laid, AreBelow, AreDistinct}
use Rattle.page_tx.specs.declared.pages.Pages.{Ghosts}
use Rattle.page_tx.specs.Start.{Start}
use Rattle.version_model.specs.Versions.{Version, Has}
use Rattle.version_model.specs.Ranges.{key_end}
use Rattle.version_model.specs.Blocks.{BlockNode}
use Rattle.version_model.specs.Pages.{PageNode, CurrentLeaf, ColumnNode, Store, TreeRepresents, IsNextStamp, all_keys}
use Rattle.tsb_node.specs.Views.{PageRepresents}
use Rattle.tsb_walk.specs.Shown.{RepresentNodes}
use Rattle.disk_models.specs.declared.once.OnceDisk.{Ghosts as OnceGhosts}
use Rattle.once_store.specs.declared.shelf.Shelf.{Shelf}
use Rattle.tsb_tree.specs.Stores.{IsStore}

-- The tree with this root represents these versions. The highest key of all is none of theirs, since as the bound of a node it
-- means no bound; and `least` is the least stamp that a version to come may have.
pub record TreeHas (s : Store) (all : List Version) (root level least : ℕ) : Type 0 where
  pub represents_all : TreeRepresents s all root level
  pub bounded : (v : Version) → Has all v → v.key + 1 < key_end
  pub next_stamp : IsNextStamp all least

-- images of two pages, a column without a past and its current leaf without a version, of all keys
pub record AreFirst (page : ℕ) (images : List Image) : Type 0 where
  pub distinct : AreDistinct (pages_of images)
  pub below : (homes : ℕ) → page + 1 < homes → AreBelow homes (pages_of images)
  pub few : length images ≤ 2
  pub column : List ℕ
  pub leaf : List ℕ
  pub laid_are : (shown : List (List ℕ)) → laid images shown ≡ slice_set (slice_set shown page column) (page + 1) leaf
  pub represents_column : PageRepresents column (ColumnNode all_keys [] 0 (page + 1))
  pub represents_leaf : PageRepresents leaf (CurrentLeaf all_keys 0 [])

-- These pages show a tree of no version, whatever blocks represent: its root is a column in this page, its leaf is in the next one, and a version
-- to come may have any stamp. Nothing is stated of any page but these two.
pub record ReportsFirst (pages : List (List ℕ)) (page : ℕ) : Type 0 where
  pub nodes : ℕ → Option PageNode
  pub reports : RepresentNodes pages nodes
  pub own : (n : ℕ) → n < page → nodes n ≡ None
  pub has : (blocks : ℕ → Option BlockNode) (next : ℕ) → TreeHas (record { nodes = nodes; limit = page + 2; blocks = blocks; next = next }) [] page 1 0

-- The pages of a transaction show a tree of no version, whatever blocks represent. Nothing is stated of any page but its own, nor of any before
-- its root.
pub record RepresentsTree {P : Type 0} (pages : Ghosts P) (held : P) (start : Start) (root level least : ℕ) : Type 0 where
  pub shown : List (List ℕ)
  pub shows : pages.shows held start shown
  pub nodes : ℕ → Option PageNode
  pub reports : RepresentNodes shown nodes
  pub own : (n : ℕ) → n < root → nodes n ≡ None
  pub has : (blocks : ℕ → Option BlockNode) (next : ℕ) → TreeHas (record { nodes = nodes; limit = pages.next held; blocks = blocks; next = next }) [] root level least

-- The pages of a transaction and the settled blocks of a shelf show the tree with this root, and it represents these versions. The store
-- has the pages of the tree alone.
pub record TreeRepresented {P : Type 0} (pages : Ghosts P) (held : P) {O Pen Seen : Type 0} (device : OnceGhosts O Pen Seen) (shelf : Shelf O Pen Seen) (start : Start) (shown : List (List ℕ)) (all : List Version) (root level least : ℕ) : Type 0 where
  pub store : Store
  pub is : IsStore pages held device shelf start shown store
  pub has : TreeHas store all root level least
