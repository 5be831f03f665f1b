-- What the pages of nodes represent that were read whole.
use Rattle.std.proofs.Common.{◌≡◌, ℕ, ◌<◌, List, sym, ◌∙◌, ap, subst, refl, arith}
use Rattle.version_model.specs.declared.bounds.Bounds.{Bounds}
use Rattle.version_model.specs.declared.part.Part.{Part}
use Rattle.version_model.specs.declared.child.Child.{Child}
use Rattle.version_model.specs.Versions.{Version}
use Rattle.version_model.specs.Pages.{Keys, PageNode, CurrentLeaf, ColumnNode, KeyNode}
use Rattle.tsb_node.specs.Leaves.{LeafNode, IsLeafPage}
use Rattle.tsb_node.specs.Columns.{ColumnInPage, IsColumnPage}
use Rattle.tsb_node.specs.KeyNodes.{KeyNodeInPage, IsKeyNodePage}
use Rattle.tsb_node.specs.declared.leaf_part.ReadFault.{ReadFault}
use Rattle.tsb_node.specs.declared.leaf_part.ReadFault.TheVariants.{NotANode}
use Rattle.tsb_node.specs.Decoded.{IsRefusal}
use Rattle.tsb_node.specs.Views.{PageRepresents, represents_leaf, represents_column, represents_key_node, keys_between}
use Rattle.tsb_node.proofs.api.Pages.{one_decoded}
use Rattle.tsb_walk.specs.declared.page_place.PagePlace.{PagePlace}
use Rattle.tsb_walk.specs.Shown.{keys_at}

-- key nodes are of level 2 and above
pub high_level : (octets : List ℕ) (node : PageNode) → PageRepresents octets node → (level : ℕ) (keys : Keys) (children : List Child) → node ≡ KeyNode level keys children → 1 < level
high_level octets _ (represents_leaf leaf is) level keys children e = absurd (cc)
high_level octets _ (represents_column column is) level keys children e = absurd (cc)
high_level octets _ (represents_key_node node is) level keys children e =
    let l : node.level ≡ level = cc in
    omega (arith, l, is.valid.lowest)

-- a page that is a key node of a level and of keys is no other
pub key_node_same : (octets : List ℕ) (node : KeyNodeInPage) (level : ℕ) (keys : Keys) (children : List Child) → IsKeyNodePage node octets → PageRepresents octets (KeyNode level keys children) → (node.level ≡ level) × (keys_between node.bounds ≡ keys)
key_node_same octets node level keys children is represents_node =
    let same = one_decoded octets (KeyNode node.level (keys_between node.bounds) node.children) (KeyNode level keys children) (represents_key_node node is) represents_node in
    let l : node.level ≡ level = cc in
    let k : keys_between node.bounds ≡ keys = cc in
    (l, k)

pub key_node_for : (octets : List ℕ) (node : KeyNodeInPage) (place : PagePlace) → IsKeyNodePage node octets → node.level ≡ place.level → keys_between node.bounds ≡ keys_at place → PageRepresents octets (KeyNode place.level (keys_at place) node.children)
key_node_for octets node place is level keys =
    subst (λ (l : ℕ). PageRepresents octets (KeyNode l (keys_at place) node.children)) level
    (subst (λ (k : Keys). PageRepresents octets (KeyNode node.level k node.children)) keys (represents_key_node node is))

pub column_same : (octets : List ℕ) (column : ColumnInPage) (keys : Keys) (parts : List Part) (start current : ℕ) → IsColumnPage column octets → PageRepresents octets (ColumnNode keys parts start current) → keys_between column.bounds ≡ keys
column_same octets column keys parts start current is represents_node =
    let same = one_decoded octets (ColumnNode (keys_between column.bounds) column.parts column.current.start column.current.page) (ColumnNode keys parts start current) (represents_column column is) represents_node in
    let k : keys_between column.bounds ≡ keys = cc in k

pub column_for : (octets : List ℕ) (column : ColumnInPage) (place : PagePlace) → IsColumnPage column octets → keys_between column.bounds ≡ keys_at place → PageRepresents octets (ColumnNode (keys_at place) column.parts column.current.start column.current.page)
column_for octets column place is keys = subst (λ (k : Keys). PageRepresents octets (ColumnNode k column.parts column.current.start column.current.page)) keys (represents_column column is)

pub leaf_for_page : (octets : List ℕ) (leaf : LeafNode) (bounds : Bounds) (place : PagePlace) (start : ℕ) → IsLeafPage leaf octets → leaf.bounds ≡ bounds → keys_between bounds ≡ keys_at place → bounds.start ≡ start
    → PageRepresents octets (CurrentLeaf (keys_at place) start leaf.versions)
leaf_for_page octets leaf bounds place start is same keys begun =
    subst (λ (k : Keys). PageRepresents octets (CurrentLeaf k start leaf.versions)) (ap keys_between same ∙ keys)
    (subst (λ (s : ℕ). PageRepresents octets (CurrentLeaf (keys_between leaf.bounds) s leaf.versions)) (ap (λ (b : Bounds). b.start) same ∙ begun) (represents_leaf leaf is))

pub leaf_same : (octets : List ℕ) (leaf : LeafNode) (bounds : Bounds) (keys : Keys) (start : ℕ) (versions : List Version) → IsLeafPage leaf octets → leaf.bounds ≡ bounds → PageRepresents octets (CurrentLeaf keys start versions)
    → (bounds.start ≡ start) × (keys_between bounds ≡ keys)
leaf_same octets leaf bounds keys start versions is same represents_node =
    let one = one_decoded octets (CurrentLeaf (keys_between leaf.bounds) leaf.bounds.start leaf.versions) (CurrentLeaf keys start versions) (represents_leaf leaf is) represents_node in
    let k : keys_between leaf.bounds ≡ keys = cc in
    let s : leaf.bounds.start ≡ start = cc in
    (ap (λ (b : Bounds). b.start) (sym same) ∙ s, ap keys_between (sym same) ∙ k)

-- ---- a page that isn't read as a node of a kind represents no such node

pub key_node_refused : (octets : List ℕ) (fault : ReadFault) (shown : PageNode) → IsRefusal (λ (node : KeyNodeInPage). IsKeyNodePage node octets) fault → fault ≡ NotANode → PageRepresents octets shown → (level : ℕ) (keys : Keys) (children : List Child) → shown ≡ KeyNode level keys children → ⊥
key_node_refused octets fault _ refusal same (represents_leaf leaf is) level keys children e = absurd (cc)
key_node_refused octets fault _ refusal same (represents_column column is) level keys children e = absurd (cc)
key_node_refused octets fault _ refusal same (represents_key_node node is) level keys children e = subst (IsRefusal (λ (node : KeyNodeInPage). IsKeyNodePage node octets)) same refusal node is

pub column_refused : (octets : List ℕ) (fault : ReadFault) (shown : PageNode) → IsRefusal (λ (column : ColumnInPage). IsColumnPage column octets) fault → fault ≡ NotANode → PageRepresents octets shown → (keys : Keys) (parts : List Part) (start current : ℕ) → shown ≡ ColumnNode keys parts start current → ⊥
column_refused octets fault _ refusal same (represents_leaf leaf is) keys parts start current e = absurd (cc)
column_refused octets fault _ refusal same (represents_column column is) keys parts start current e = subst (IsRefusal (λ (column : ColumnInPage). IsColumnPage column octets)) same refusal column is
column_refused octets fault _ refusal same (represents_key_node node is) keys parts start current e = absurd (cc)

pub leaf_refused : (octets : List ℕ) (fault : ReadFault) (shown : PageNode) → IsRefusal (λ (leaf : LeafNode). IsLeafPage leaf octets) fault → fault ≡ NotANode → PageRepresents octets shown → (keys : Keys) (start : ℕ) (versions : List Version) → shown ≡ CurrentLeaf keys start versions → ⊥
leaf_refused octets fault _ refusal same (represents_leaf leaf is) keys start versions e = subst (IsRefusal (λ (leaf : LeafNode). IsLeafPage leaf octets)) same refusal leaf is
leaf_refused octets fault _ refusal same (represents_column column is) keys start versions e = absurd (cc)
leaf_refused octets fault _ refusal same (represents_key_node node is) keys start versions e = absurd (cc)
