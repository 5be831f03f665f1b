-- What pages represent is what is read from them.
use Rattle.std.proofs.Common.{◌≡◌, ℕ, zero, suc, ◌+◌, List, [], ◌∷◌, Some, Result, Err, min, slice_get, refl, sym, ◌∙◌, ap, subst}
use Rattle.std.specs.List.{AllByRecursion}
use Rattle.std.proofs.lemmas.Option.{same_Some, none-some}
use Rattle.version_model.specs.declared.part.Part.{Part}
use Rattle.version_model.specs.declared.child.Child.{Child}
use Rattle.version_model.specs.Versions.{Version}
use Rattle.version_model.specs.Pages.{Keys, PageNode, CurrentLeaf, ColumnNode, KeyNode}
use Rattle.tsb_node.specs.Views.{PageRepresents, represents_leaf, represents_column, represents_key_node, keys_between}
use Rattle.tsb_node.specs.Leaves.{LeafNode, IsLeafPage}
use Rattle.tsb_node.specs.Columns.{ColumnInPage, IsColumnPage}
use Rattle.tsb_node.specs.KeyNodes.{KeyNodeInPage, IsKeyNodePage}
use Rattle.tsb_node.specs.Parts.{BeginsAsColumn}
use Rattle.tsb_node.specs.Children.{BeginsAsKeyNode}
use Rattle.tsb_node.proofs.api.Pages.{column_begins, key_node_begins}
use Rattle.page_tx.specs.declared.pages.Pages.{Ghosts}
use Rattle.page_tx.specs.declared.error.PageError.TheVariants as refusals
use Rattle.tsb_walk.specs.Refusals.{OnlyReads}
use Rattle.tsb_walk.specs.declared.error.NodeError.{NodeError}
use Rattle.tsb_walk.specs.declared.error.NodeError.TheVariants as walks
use Rattle.tsb_tree.specs.declared.error.TreeError.{TreeError}
use Rattle.tsb_tree.specs.declared.error.TreeError.TheVariants as errors
use Rattle.tsb_tree.specs.Refusals.{of_node}

pub record ColumnOf (octets : List ℕ) (k : Keys) (parts : List Part) (start current : ℕ) : Type 0 where
  pub column : ColumnInPage
  pub page : IsColumnPage column octets
  pub begins : BeginsAsColumn column octets
  pub is : ColumnNode (keys_between column.bounds) column.parts column.current.start column.current.page ≡ ColumnNode k parts start current

pub column_of : (octets : List ℕ) (node : PageNode) (k : Keys) (parts : List Part) (start current : ℕ) → node ≡ ColumnNode k parts start current → PageRepresents octets node → ColumnOf octets k parts start current
column_of octets _ k parts start current e (represents_leaf leaf p) = absurd (cc)
column_of octets _ k parts start current e (represents_column column p) = record { column = column; page = p; begins = column_begins column octets p; is = e }
column_of octets _ k parts start current e (represents_key_node node p) = absurd (cc)

pub record LeafOf (octets : List ℕ) (k : Keys) (start : ℕ) (versions : List Version) : Type 0 where
  pub leaf : LeafNode
  pub page : IsLeafPage leaf octets
  pub is : CurrentLeaf (keys_between leaf.bounds) leaf.bounds.start leaf.versions ≡ CurrentLeaf k start versions

pub leaf_of : (octets : List ℕ) (node : PageNode) (k : Keys) (start : ℕ) (versions : List Version) → node ≡ CurrentLeaf k start versions → PageRepresents octets node → LeafOf octets k start versions
leaf_of octets _ k start versions e (represents_leaf leaf p) = record { leaf = leaf; page = p; is = e }
leaf_of octets _ k start versions e (represents_column column p) = absurd (cc)
leaf_of octets _ k start versions e (represents_key_node node p) = absurd (cc)

pub record KeyNodeOf (octets : List ℕ) (level : ℕ) (k : Keys) (children : List Child) : Type 0 where
  pub node : KeyNodeInPage
  pub page : IsKeyNodePage node octets
  pub begins : BeginsAsKeyNode node octets
  pub is : KeyNode node.level (keys_between node.bounds) node.children ≡ KeyNode level k children

pub key_node_of_page : (octets : List ℕ) (node : PageNode) (level : ℕ) (k : Keys) (children : List Child) → node ≡ KeyNode level k children → PageRepresents octets node → KeyNodeOf octets level k children
key_node_of_page octets _ level k children e (represents_leaf leaf p) = absurd (cc)
key_node_of_page octets _ level k children e (represents_column column p) = absurd (cc)
key_node_of_page octets _ level k children e (represents_key_node node p) = record { node = node; page = p; begins = key_node_begins node octets p; is = e }

pub each_get : {X : Type 0} (P : X → Type 0) (xs : List X) (i : ℕ) (x : X) → AllByRecursion P xs → slice_get xs i ≡ Some x → P x
each_get P [] i x all at = absurd (none-some x at)
each_get P (y ∷ xs) zero x all at = subst P (same_Some y x at) all.0
each_get P (y ∷ xs) (suc i) x all at = each_get P xs i x all.1 at

-- the same calls, of failures that are the same ones
pub reads_as : {P : Type 0} (pages : Ghosts P) (old new : P) (F G : Type 0) → OnlyReads pages old new F → (F → G) → (G → F) → OnlyReads pages old new G
reads_as pages old new F G reads to from = record {
  shown = reads.shown;
  homes = reads.homes;
  next = reads.next;
  named = reads.named;
  down = reads.down;
  device = record { honest = reads.device.honest; quiet = λ none. reads.device.quiet (λ is. none (to is)); counted = λ is. reads.device.counted (from is) };
}

-- one call after another, of which the first one failed not
pub reads_then : {P : Type 0} (pages : Ghosts P) (a b c : P) (F G : Type 0) → OnlyReads pages a b F → (F → ⊥) → OnlyReads pages b c G → OnlyReads pages a c G
reads_then pages a b c F G one nf two = record {
  shown = λ start shown is. two.shown start shown (one.shown start shown is);
  homes = two.homes ∙ one.homes;
  next = two.next ∙ one.next;
  named = two.named ∙ one.named;
  down = two.down ∙ one.down;
  device = record {
    honest = (λ h. two.device.honest.0 (one.device.honest.0 h), λ h. one.device.honest.1 (two.device.honest.1 h));
    quiet = λ none. two.device.quiet none ∙ one.device.quiet nf;
    counted = λ is. two.device.counted is ∙ ap (λ k. min (k + 1) 18446744073709551615) (one.device.quiet nf);
  };
}

pub same_Err : {A E : Type 0} (m n : E) → ◌≡◌ {A = Result A E} (Err m) (Err n) → m ≡ n
same_Err m n e = cc

-- the device failed in a walk exactly where the tree reports it
pub fault_of : (e : NodeError) → of_node e ≡ errors.Pages refusals.Fault → e ≡ walks.Fault
fault_of (walks.BadNode page) is = cc
fault_of (walks.Damaged block) is = cc
fault_of walks.Fault is = refl
fault_of walks.OnceFault is = cc
fault_of walks.NeedsRecovery is = cc
fault_of walks.OutOfMemory is = cc

pub fault_to : {A B : Type 0} (e : NodeError) (t : TreeError) → t ≡ of_node e → ◌≡◌ {A = Result A NodeError} (Err e) (Err walks.Fault) → ◌≡◌ {A = Result B TreeError} (Err t) (Err (errors.Pages refusals.Fault))
fault_to {A} e t of is = ap Err (of ∙ ap of_node (same_Err {A = A} e walks.Fault is))

pub fault_from : {A B : Type 0} (e : NodeError) (t : TreeError) → t ≡ of_node e → ◌≡◌ {A = Result B TreeError} (Err t) (Err (errors.Pages refusals.Fault)) → ◌≡◌ {A = Result A NodeError} (Err e) (Err walks.Fault)
fault_from {A} {B} e t of is = ap Err (fault_of e (sym of ∙ same_Err {A = B} t (errors.Pages refusals.Fault) is))

-- an error that isn't the device's, after calls that read alone
pub reads_no : {P A : Type 0} (pages : Ghosts P) (old new : P) (F : Type 0) (e : TreeError) → (◌≡◌ {A = Result A TreeError} (Err e) (Err (errors.Pages refusals.Fault)) → ⊥) → (F → ⊥) → OnlyReads pages old new F → OnlyReads pages old new (◌≡◌ {A = Result A TreeError} (Err e) (Err (errors.Pages refusals.Fault)))
reads_no pages old new F e not nf reads = reads_as pages old new F _ reads (λ f. absurd (nf f)) (λ is. absurd (not is))
