-- A column with its current leaf, in memory: what it represents, and what becomes of it.
use Rattle.std.specs.Prelude.{◌≡◌, ℕ, ◌<◌, ◌⊎◌, List, Option, Some}
use Rattle.version_model.specs.Versions.{Version, Has, IsAbove, Adds}
use Rattle.version_model.specs.Ranges.{high_or}
use Rattle.version_model.specs.Blocks.{BlockNode}
use Rattle.version_model.specs.Pages.{Keys, PageNode, CurrentLeaf, ColumnNode}
use Rattle.worm_migration.specs.Columns.{ColumnHas}
use Rattle.tsb_tree.specs.declared.whole.Whole.{Whole}

-- the keys from one on and below another
abbrev pub keys : ℕ → ℕ → Keys
keys low high = record { low = low; high = high }

-- the keys of a column
abbrev pub keys_of_whole : Whole → Keys
keys_of_whole w = keys w.low (high_or w.high)

-- The column represents these versions: its parts and its leaf have them, and the leaf starts before any version to come.
pub record WholeHas (blocks : ℕ → Option BlockNode) (next : ℕ) (all : List Version) (w : Whole) : Type 0 where
  pub column : ColumnHas blocks next all (keys_of_whole w) w.start w.parts.items w.leaf
  pub started : (s : ℕ) → ((v : Version) → Has all v → v.stamp < s) → (w.start < s) ⊎ (w.start ≡ 0)

-- what the column's page represents
abbrev pub column_node : Whole → ℕ → PageNode
column_node w current = ColumnNode (keys_of_whole w) w.parts.items w.start current

-- what its current leaf's page represents
abbrev pub leaf_node : Whole → PageNode
leaf_node w = CurrentLeaf (keys_of_whole w) w.start w.leaf

-- the page and its current leaf's page represent the column
pub record IsAt (nodes : ℕ → Option PageNode) (page current : ℕ) (w : Whole) : Type 0 where
  pub at : nodes page ≡ Some (column_node w current)
  pub at_current : nodes current ≡ Some (leaf_node w)

-- the column takes the version, with the blocks that there are then
pub record Takes (blocks : ℕ → Option BlockNode) (next : ℕ) (blocks' : ℕ → Option BlockNode) (next' : ℕ) (v : Version) (w w' : Whole) : Type 0 where
  pub low : w'.low ≡ w.low
  pub high : w'.high ≡ w.high
  pub takes : (all after : List Version) → IsAbove all v.stamp → Adds all v after → WholeHas blocks next all w → WholeHas blocks' next' after w'

-- the column is split by key into two, each with the whole past
pub record AreHalves (w left right : Whole) : Type 0 where
  pub low : left.low ≡ w.low
  pub middle : left.high ≡ Some right.low
  pub high : right.high ≡ w.high
  pub above : w.low < right.low
  pub below : right.low < high_or w.high
  pub has : (blocks : ℕ → Option BlockNode) (next : ℕ) (all : List Version) → WholeHas blocks next all w → WholeHas blocks next all left × WholeHas blocks next all right
