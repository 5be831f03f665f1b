-- Columns in memory that fit into their pages.
use Rattle.std.specs.Prelude.{◌≡◌, ℕ, ◌-◌, ◌/◌, ◌<◌, ◌≤◌, List, Option, None}
use Rattle.version_model.specs.declared.bounds.Bounds.{Bounds}
use Rattle.version_model.specs.Versions.{Version, Has}
use Rattle.version_model.specs.Sizes.{octets, IsSingle, AreSmall}
use Rattle.tsb_node.specs.Nodes.{AreInOrder}
use Rattle.tsb_node.specs.Leaves.{LeafNode, IsShortOf}
use Rattle.tsb_node.specs.Columns.{ColumnInPage, PartsFollow}
use Rattle.tsb_tree.specs.declared.whole.Whole.{Whole}

-- the bounds of a current node from a start on
abbrev pub bounds_from : ℕ → Option ℕ → ℕ → Bounds
bounds_from low high start = record { low = low; high = high; start = start; end = None }

-- the current leaf of a column
abbrev pub leaf_in_page : Whole → LeafNode
leaf_in_page w = record { bounds = bounds_from w.low w.high w.start; versions = w.leaf }

-- the column whose current leaf is in this page
abbrev pub column_in_page : Whole → ℕ → ColumnInPage
column_in_page w current = record { bounds = bounds_from w.low w.high 0; parts = w.parts.items; current = record { start = w.start; page = current } }

-- The column is one that a page has, but for the room that its leaf takes: its keys and its parts are in order, and its leaf
-- has versions of its keys alone.
pub record IsWhole (w : Whole) : Type 0 where
  pub order : AreInOrder (bounds_from w.low w.high 0)
  pub each : (v : Version) → Has w.leaf v → IsShortOf (bounds_from w.low w.high 0) v
  pub follow : (current : ℕ) → PartsFollow (column_in_page w current)

-- the columns are the same but for their parts
pub record IsSameButParts (w' w : Whole) : Type 0 where
  pub low : w'.low ≡ w.low
  pub high : w'.high ≡ w.high
  pub start : w'.start ≡ w.start
  pub leaf : w'.leaf ≡ w.leaf

-- A leaf that is split by key: each key has one version of at most 3,131 octets, and together they take more than two thirds of a page, and
-- no more than a page and one of them.
pub record IsFull (leaf : List Version) : Type 0 where
  pub single : IsSingle leaf
  pub small : AreSmall leaf 3131
  pub much : 10821 < octets leaf
  pub most : octets leaf ≤ 19363

-- The octets below the key at which it is split, at least: with one entry more they are half of what it takes and of the largest entry.
abbrev pub least_of : List Version → ℕ
least_of leaf = (octets leaf - 3131) / 2

-- the column with another leaf
abbrev pub with_leaf : Whole → List Version → Whole
with_leaf w leaf = record w { leaf = leaf }
