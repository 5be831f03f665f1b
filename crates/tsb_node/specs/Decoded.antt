-- The nodes that values in memory represent.
use Rattle.version_model.specs.Entries.{versions_of}
use Rattle.tsb_node.specs.declared.leaf_part.ReadFault.{ReadFault}
use Rattle.tsb_node.specs.declared.leaf_part.ReadFault.TheVariants.{NotANode, Memory}
use Rattle.tsb_node.specs.declared.decoded_leaf.DecodedLeaf.{DecodedLeaf}
use Rattle.tsb_node.specs.declared.decoded_column.DecodedColumn.{DecodedColumn}
use Rattle.tsb_node.specs.declared.decoded_column.DecodedOldColumn.{DecodedOldColumn}
use Rattle.tsb_node.specs.declared.decoded_key_node.DecodedKeyNode.{DecodedKeyNode}
use Rattle.tsb_node.specs.KeyNodes.{KeyNodeInPage}
use Rattle.tsb_node.specs.Leaves.{LeafNode}
use Rattle.tsb_node.specs.Columns.{ColumnInPage, ColumnInBlock}

-- a leaf in memory, as the leaf that it is
abbrev pub decoded_leaf : DecodedLeaf → LeafNode
decoded_leaf decoded = record { bounds = decoded.bounds; versions = versions_of decoded.entries.items }

-- a column of a page in memory, as the column that it is
abbrev pub decoded_column : DecodedColumn → ColumnInPage
decoded_column decoded = record { bounds = decoded.bounds; parts = decoded.parts.items; current = decoded.current }

-- a column of a block in memory, as the column that it is
abbrev pub decoded_old_column : DecodedOldColumn → ColumnInBlock
decoded_old_column decoded = record { bounds = decoded.bounds; parts = decoded.parts.items }

-- a key node in memory, as the key node that it is
abbrev pub decoded_key_node : DecodedKeyNode → KeyNodeInPage
decoded_key_node decoded = record { level = decoded.level; bounds = decoded.bounds; children = decoded.children.items }

-- a reader's error: NotANode exactly if the octets are no such node, Memory only if they are one
abbrev pub IsRefusal : {X : Type 0} → (X → Type 0) → ReadFault → Type 0
IsRefusal Reads NotANode = (x : _) → Reads x → ⊥
IsRefusal Reads Memory = (x : _) × Reads x
