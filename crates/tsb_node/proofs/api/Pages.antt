-- Pages, and what they represent in the words of the tree.
use Rattle.std.proofs.Common.{◌≡◌, ℕ, List}
use Rattle.version_model.specs.Ranges.{high_or}
use Rattle.version_model.specs.Blocks.{IsPartOf}
use Rattle.version_model.specs.Pages.{PageNode, IsChildOf, past_range}
use Rattle.tsb_node.specs.declared.column.PartAt.{PartAt}
use Rattle.tsb_node.specs.declared.column.Spot.TheVariants.{InBlock}
use Rattle.tsb_node.specs.declared.key_node.Under.{Under}
use Rattle.tsb_node.specs.Leaves.{LeafNode, IsLeafPage, BeginsAsLeaf}
use Rattle.tsb_node.specs.Columns.{ColumnInPage, IsColumnPage}
use Rattle.tsb_node.specs.KeyNodes.{KeyNodeInPage, IsKeyNodePage}
use Rattle.tsb_node.specs.Children.{BeginsAsKeyNode, IsUnder}
use Rattle.tsb_node.specs.Parts.{BeginsAsColumn, IsSpot}
use Rattle.tsb_node.specs.Views.{PageRepresents, keys_between}
use Rattle.tsb_node.proofs.OneNode.{page_one, leaf_page, column_page, key_page}
use Rattle.tsb_node.proofs.ViewLaws.{child_is_of, spot_part}

-- a page represents one thing at most
pub one_decoded : (octets : List ℕ) (a b : PageNode) → PageRepresents octets a → PageRepresents octets b → a ≡ b
one_decoded octets a b p q = page_one octets a b p q

pub leaf_begins : (leaf : LeafNode) (octets : List ℕ) → IsLeafPage leaf octets → BeginsAsLeaf leaf octets
leaf_begins leaf octets is = leaf_page leaf octets is

pub column_begins : (column : ColumnInPage) (octets : List ℕ) → IsColumnPage column octets → BeginsAsColumn column octets
column_begins column octets is = column_page column octets is

pub key_node_begins : (node : KeyNodeInPage) (octets : List ℕ) → IsKeyNodePage node octets → BeginsAsKeyNode node octets
key_node_begins node octets is = key_page node octets is

-- the child under which a key lies is one of the key node's, of its own keys
pub child_under : (node : KeyNodeInPage) (key : ℕ) (under : Under) → IsUnder node key under
    → IsChildOf (keys_between node.bounds) node.children (record { low = under.low; high = high_or under.high }) (record { low = under.low; page = under.page })
child_under node key under is = child_is_of node key under is

-- the part in which a stamp lies is one of the past of the column
pub part_at_spot : (column : ColumnInPage) (stamp : ℕ) (found : PartAt) → IsSpot column stamp (InBlock found)
    → IsPartOf (past_range (keys_between column.bounds) column.current.start) column.parts (record { low = column.bounds.low; high = high_or column.bounds.high; start = found.part.start; end = found.end }) found.part
part_at_spot column stamp found is = spot_part column stamp found is
