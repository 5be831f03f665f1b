-- Roots of trees, by what their pages represent.
use Rattle.std.proofs.Common.{◌≡◌, ℕ, suc, ◌<◌, ◌≤◌, ◌⊎◌, inl, inr, List, Option, Some, None, IfSome, length, slice_get, refl, sym, ◌∙◌, subst, arith}
use Rattle.std.proofs.lemmas.Option.{same_Some, slice_get_within}
use Rattle.version_model.specs.Versions.{Version}
use Rattle.version_model.specs.Blocks.{BlockNode}
use Rattle.version_model.specs.Pages.{Keys, PageNode, ColumnNode, KeyNode, NodeRepresents, column, key_node, Store, TreeRepresents, all_keys}
use Rattle.tsb_node.specs.Columns.{ColumnInPage}
use Rattle.tsb_node.specs.Parts.{BeginsAsColumn}
use Rattle.tsb_node.specs.KeyNodes.{KeyNodeInPage}
use Rattle.tsb_node.specs.Children.{BeginsAsKeyNode}
use Rattle.tsb_node.specs.Views.{PageRepresents, keys_between}
use Rattle.tsb_node.proofs.api.Pages.{one_decoded, column_begins, key_node_begins}
use Rattle.tsb_walk.proofs.OnePage.{decoded_column_page, key_node_decoded}
use Rattle.tsb_walk.specs.Shown.{RepresentNodes}
use Rattle.tsb_walk.specs.declared.error.NodeError.{NodeError}
use Rattle.tsb_walk.specs.declared.error.NodeError.TheVariants as walks
use Rattle.tsb_tree.specs.declared.error.TreeError.{TreeError}
use Rattle.tsb_tree.specs.declared.error.TreeError.TheVariants as errors
use Rattle.tsb_tree.specs.Refusals.{of_node}
use Rattle.tsb_tree.specs.Opened.{IsRoot, is_column, is_key_node, IsShownRoot}

-- octets are a root of one level at most
pub one_root : (octets : List ℕ) (a b : ℕ) → IsRoot octets a → IsRoot octets b → a ≡ b
one_root octets _ _ (is_column parts start current p) (is_column parts' start' current' q) = refl
one_root octets _ _ (is_column parts start current p) (is_key_node level children q) = absurd (let e = one_decoded octets (ColumnNode all_keys parts start current) (KeyNode level all_keys children) p q in cc)
one_root octets _ _ (is_key_node level children p) (is_column parts start current q) = absurd (let e = one_decoded octets (KeyNode level all_keys children) (ColumnNode all_keys parts start current) p q in cc)
one_root octets _ _ (is_key_node level children p) (is_key_node level' children' q) =
    let e = one_decoded octets (KeyNode level all_keys children) (KeyNode level' all_keys children') p q in
    let l : level ≡ level' = cc in l

-- a root is a column or a key node of all keys
pub record RootColumn (octets : List ℕ) : Type 0 where
  pub column : ColumnInPage
  pub begins : BeginsAsColumn column octets
  pub keys : keys_between column.bounds ≡ all_keys

pub record RootKeyNode (octets : List ℕ) (level : ℕ) : Type 0 where
  pub node : KeyNodeInPage
  pub begins : BeginsAsKeyNode node octets
  pub level_is : node.level ≡ level
  pub keys : keys_between node.bounds ≡ all_keys

pub root_cases : (octets : List ℕ) (level : ℕ) → IsRoot octets level → ((level ≡ 1) × RootColumn octets) ⊎ RootKeyNode octets level
root_cases octets _ (is_column parts start current p) =
    (let decoded = decoded_column_page octets _ p all_keys parts start current refl in inl (refl, record { column = decoded.column; begins = column_begins decoded.column octets decoded.page; keys = decoded.keys_are }))
root_cases octets _ (is_key_node level children p) =
    (let decoded = key_node_decoded octets _ p level all_keys children refl in inr (record { node = decoded.node; begins = key_node_begins decoded.node octets decoded.page; level_is = decoded.level_is; keys = decoded.keys_are }))

-- the page is a root of one level at most
pub level_is : (shown : List (List ℕ)) (root : ℕ) (octets : List ℕ) (a b : ℕ) → slice_get shown root ≡ Some octets → IsRoot octets a → IsShownRoot shown root b → a ≡ b
level_is shown root octets a b at is other = one_root octets a b is (subst (λ (o : List ℕ). IsRoot o b) (same_Some _ _ (sym other.1 ∙ at)) other.2)

pub root_here : (shown : List (List ℕ)) (root : ℕ) (octets : List ℕ) (level : ℕ) → slice_get shown root ≡ Some octets → IsShownRoot shown root level → IsRoot octets level
root_here shown root octets level at other = subst (λ (o : List ℕ). IsRoot o level) (same_Some _ _ (sym other.1 ∙ at)) other.2

pub root_inside : (shown : List (List ℕ)) (root level : ℕ) → IsShownRoot shown root level → root < length shown
root_inside shown root level is = slice_get_within shown root is.0 is.1

represents_root : (shown : List (List ℕ)) (nodes : ℕ → Option PageNode) (limit : ℕ) (blocks : ℕ → Option BlockNode) (next : ℕ) (all : List Version) → RepresentNodes shown nodes
    → (level : ℕ) (k : Keys) (root : ℕ) → k ≡ all_keys → NodeRepresents nodes limit blocks next all level k root → IsShownRoot shown root level
represents_root shown nodes limit blocks next all are _ _ _ e (column k page c) =
    let represents_node = are page (ColumnNode k c.parts c.start c.current) c.at in
    (represents_node.octets, represents_node.at, is_column c.parts c.start c.current (subst (λ (x : Keys). PageRepresents represents_node.octets (ColumnNode x c.parts c.start c.current)) e represents_node.represents_node))
represents_root shown nodes limit blocks next all are _ _ _ e (key_node level k page children in_limit at follow stand) =
    let represents_node = are page (KeyNode (suc level) k children) at in
    (represents_node.octets, represents_node.at, is_key_node (suc level) children (subst (λ (x : Keys). PageRepresents represents_node.octets (KeyNode (suc level) x children)) e represents_node.represents_node))

-- the root of a tree that stands is a root of its level
pub tree_root : (shown : List (List ℕ)) (s : Store) (all : List Version) (root level : ℕ) → RepresentNodes shown s.nodes → TreeRepresents s all root level → IsShownRoot shown root level
tree_root shown s all root level are tree = represents_root shown s.nodes s.limit s.blocks s.next all are level all_keys root refl tree.represents_all

pub some_map : (P Q : ℕ → Type 0) (r : Option ℕ) → ((x : ℕ) → P x → Q x) → IfSome r P → IfSome r Q
some_map P Q None f h = tt
some_map P Q (Some x) f h = f x h

-- a page that the tree reports as bad is one that the walk does
pub bad_from : (r : NodeError) (e : TreeError) (page : ℕ) → e ≡ of_node r → e ≡ errors.BadNode page → r ≡ walks.BadNode page
bad_from (walks.BadNode n) e page is bad = (let same : errors.BadNode n ≡ errors.BadNode page = sym is ∙ bad in cc)
bad_from (walks.Damaged n) e page is bad = absurd (let same : errors.Damaged n ≡ errors.BadNode page = sym is ∙ bad in cc)
bad_from walks.Fault e page is bad = absurd (let same = sym is ∙ bad in cc)
bad_from walks.OnceFault e page is bad = absurd (let same = sym is ∙ bad in cc)
bad_from walks.NeedsRecovery e page is bad = absurd (let same = sym is ∙ bad in cc)
bad_from walks.OutOfMemory e page is bad = absurd (let same = sym is ∙ bad in cc)
