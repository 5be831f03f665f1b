-- Nodes that weren't read: if the page is such a node, no page is blamed, since there was no memory.
use Rattle.std.proofs.Common.{◌≡◌, ℕ, List}
use Rattle.version_model.specs.declared.part.Part.{Part}
use Rattle.version_model.specs.declared.child.Child.{Child}
use Rattle.version_model.specs.Pages.{Keys, PageNode, ColumnNode, KeyNode}
use Rattle.tsb_node.specs.declared.leaf_part.ReadFault.{ReadFault}
use Rattle.tsb_node.specs.declared.leaf_part.ReadFault.TheVariants.{NotANode, Memory}
use Rattle.tsb_node.specs.Decoded.{IsRefusal}
use Rattle.tsb_node.specs.Columns.{ColumnInPage, IsColumnPage}
use Rattle.tsb_node.specs.KeyNodes.{KeyNodeInPage, IsKeyNodePage}
use Rattle.tsb_node.specs.Views.{PageRepresents, represents_leaf, represents_column, represents_key_node}
use Rattle.tsb_tree.specs.Refusals.{BlamesNone, of_fault}

pub node_blames_none : {X : Type 0} (reads : X → Type 0) (fault : ReadFault) (n : ℕ) (x : X) → IsRefusal reads fault → reads x → BlamesNone (of_fault fault n)
node_blames_none reads NotANode n x refusal is = absurd (refusal x is)
node_blames_none reads Memory n x refusal is = tt

pub column_blames_none : (octets : List ℕ) (fault : ReadFault) (n : ℕ) (shown : PageNode) → IsRefusal (λ (column : ColumnInPage). IsColumnPage column octets) fault → PageRepresents octets shown
    → (keys : Keys) (parts : List Part) (start current : ℕ) → shown ≡ ColumnNode keys parts start current → BlamesNone (of_fault fault n)
column_blames_none octets fault n _ refusal (represents_leaf leaf is) keys parts start current e = absurd (cc)
column_blames_none octets fault n _ refusal (represents_column column is) keys parts start current e = node_blames_none (λ (c : ColumnInPage). IsColumnPage c octets) fault n column refusal is
column_blames_none octets fault n _ refusal (represents_key_node node is) keys parts start current e = absurd (cc)

pub key_node_blames_none : (octets : List ℕ) (fault : ReadFault) (n : ℕ) (shown : PageNode) → IsRefusal (λ (node : KeyNodeInPage). IsKeyNodePage node octets) fault → PageRepresents octets shown
    → (level : ℕ) (keys : Keys) (children : List Child) → shown ≡ KeyNode level keys children → BlamesNone (of_fault fault n)
key_node_blames_none octets fault n _ refusal (represents_leaf leaf is) level keys children e = absurd (cc)
key_node_blames_none octets fault n _ refusal (represents_column column is) level keys children e = absurd (cc)
key_node_blames_none octets fault n _ refusal (represents_key_node node is) level keys children e = node_blames_none (λ (k : KeyNodeInPage). IsKeyNodePage k octets) fault n node refusal is
