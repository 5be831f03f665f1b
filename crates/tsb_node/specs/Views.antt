-- What the octets of pages and blocks represent, in the terms of the tree.
use Rattle.std.specs.Prelude.{List, ℕ}
use Rattle.version_model.specs.declared.bounds.Bounds.{Bounds}
use Rattle.version_model.specs.Ranges.{high_or, range_of}
use Rattle.version_model.specs.Pages.{Keys, PageNode, CurrentLeaf, ColumnNode, KeyNode}
use Rattle.version_model.specs.Blocks.{BlockNode, OldLeaf, OldColumn}
use Rattle.tsb_node.specs.Leaves.{LeafNode, IsLeafPage, IsLeafBlock}
use Rattle.tsb_node.specs.Columns.{ColumnInPage, ColumnInBlock, IsColumnPage, IsColumnBlock}
use Rattle.tsb_node.specs.KeyNodes.{KeyNodeInPage, IsKeyNodePage}

-- the keys between bounds
abbrev pub keys_between : Bounds → Keys
keys_between b = record { low = b.low; high = high_or b.high }

-- what a page represents: a current leaf with its start, a column, or a key node
pub data PageRepresents (octets : List ℕ) : PageNode → Type 0 where
  represents_leaf : (leaf : LeafNode) → IsLeafPage leaf octets → PageRepresents octets (CurrentLeaf (keys_between leaf.bounds) leaf.bounds.start leaf.versions)
  represents_column : (column : ColumnInPage) → IsColumnPage column octets → PageRepresents octets (ColumnNode (keys_between column.bounds) column.parts column.current.start column.current.page)
  represents_key_node : (node : KeyNodeInPage) → IsKeyNodePage node octets → PageRepresents octets (KeyNode node.level (keys_between node.bounds) node.children)

-- what a block represents: a leaf or a column, each with its keys and stamps
pub data BlockRepresents (octets : List ℕ) : BlockNode → Type 0 where
  represents_old_leaf : (leaf : LeafNode) → IsLeafBlock leaf octets → BlockRepresents octets (OldLeaf (range_of leaf.bounds) leaf.versions)
  represents_old_column : (column : ColumnInBlock) → IsColumnBlock column octets → BlockRepresents octets (OldColumn (range_of column.bounds) column.parts)
