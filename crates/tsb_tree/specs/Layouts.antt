-- The images of a column that took a version in memory.
use Rattle.std.specs.Prelude.{◌≡◌, ℕ, ◌+◌, ◌<◌, ◌≤◌, List, [], Option, Some, None, length, slice_set}
use Rattle.page_journal.specs.Layout.{Image, pages_of}
use Rattle.page_journal.specs.Recovers.{laid, AreBelow, AreDistinct}
use Rattle.tsb_node.specs.Views.{PageRepresents}
use Rattle.version_model.specs.declared.child.Child.{Child}
use Rattle.disk_models.specs.declared.once.OnceDisk.{Ghosts as OnceGhosts}
use Rattle.once_store.specs.declared.shelf.Shelf.{Shelf}
use Rattle.version_model.specs.Blocks.{BlockNode}
use Rattle.version_model.specs.Versions.{Version}
use Rattle.tsb_tree.specs.declared.change.Change.{Change}
use Rattle.tsb_tree.specs.declared.whole.Whole.{Whole}
use Rattle.tsb_tree.specs.Shelves.{TakesOn}
use Rattle.tsb_tree.specs.Wholes.{AreHalves, column_node, leaf_node}

-- a column's page and that of its current leaf are laid over others
pub record LaysWhole (page current : ℕ) (w : Whole) (old new : List Image) : Type 0 where
  pub column : List ℕ
  pub leaf : List ℕ
  pub represents_column : PageRepresents column (column_node w current)
  pub represents_leaf : PageRepresents leaf (leaf_node w)
  pub over : (shown : List (List ℕ)) → laid new shown ≡ slice_set (slice_set (laid old shown) page column) current leaf
  pub distinct : AreDistinct (pages_of new)
  pub below : (homes : ℕ) → page < homes → current < homes → AreBelow homes (pages_of old) → AreBelow homes (pages_of new)
  pub few : length new ≤ length old + 2

-- both halves of a column are laid: the lower one over its pages, the higher one over two that were never used
pub record LaysTwo (page current fresh : ℕ) (left right : Whole) (images : List Image) : Type 0 where
  pub mid : List Image
  pub first : LaysWhole page current left [] mid
  pub second : LaysWhole fresh (fresh + 1) right mid images

-- a column in memory is laid as one, or as its two halves
abbrev pub LaysOut : ℕ → ℕ → ℕ → Whole → List Image → ℕ → Option Child → Type 0
LaysOut page current fresh w images unused None = (unused ≡ fresh) × LaysWhole page current w [] images
LaysOut page current fresh w images unused (Some new) = (left : Whole) × (right : Whole) × AreHalves w left right × LaysTwo page current fresh left right images × (unused ≡ fresh + 2) × (new ≡ record { low = right.low; page = fresh })

-- the page of a column's leaf is laid alone
pub record LaysLeaf (current : ℕ) (leaf : List ℕ) (images : List Image) : Type 0 where
  pub over : (shown : List (List ℕ)) → laid images shown ≡ slice_set shown current leaf
  pub distinct : AreDistinct (pages_of images)
  pub below : (homes : ℕ) → current < homes → AreBelow homes (pages_of images)
  pub few : length images ≤ 1

-- From some blocks to others a column took the version, and what it became is laid out.
pub record TakesOut {O Pen Seen : Type 0} (device : OnceGhosts O Pen Seen) (new : Shelf O Pen Seen) (blocks : ℕ → Option BlockNode) (next : ℕ) (v : Version) (page current fresh : ℕ) (w : Whole) (change : Change) : Type 0 where
  pub more : ℕ → Option BlockNode
  pub whole : Whole
  pub takes : TakesOn device new blocks more next v w whole
  pub laid : LaysOut page current fresh whole change.images.items change.unused change.new
