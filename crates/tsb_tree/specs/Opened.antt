-- Trees that are opened by their roots, and looked into.
use Rattle.std.specs.Prelude.{◌≡◌, ℕ, List, Option, Some, slice_get}
use Rattle.page_tx.specs.declared.pages.Pages.{Ghosts}
use Rattle.page_tx.specs.Start.{Start}
use Rattle.tsb_walk.specs.Shown.{RepresentNodes}
use Rattle.tsb_node.specs.Views.{PageRepresents}
use Rattle.version_model.specs.declared.part.Part.{Part}
use Rattle.version_model.specs.declared.child.Child.{Child}
use Rattle.version_model.specs.Blocks.{BlockNode}
use Rattle.version_model.specs.Pages.{PageNode, ColumnNode, KeyNode, Store, TreeRepresents, all_keys}
use Rattle.version_model.specs.Versions.{Version}

-- the octets are a root of this level: a column, or a key node, of all keys
pub data IsRoot (octets : List ℕ) : ℕ → Type 0 where
  is_column : (parts : List Part) (start current : ℕ) → PageRepresents octets (ColumnNode all_keys parts start current) → IsRoot octets 1
  is_key_node : (level : ℕ) (children : List Child) → PageRepresents octets (KeyNode level all_keys children) → IsRoot octets level

-- a page that is shown is a root of this level
abbrev pub IsShownRoot : List (List ℕ) → ℕ → ℕ → Type 0
IsShownRoot shown root level = (octets : List ℕ) × (slice_get shown root ≡ Some octets) × IsRoot octets level

-- where the page of the root is a root, this is its level
abbrev pub HasRootLevel : List (List ℕ) → ℕ → ℕ → Type 0
HasRootLevel shown root level = (other : ℕ) → IsShownRoot shown root other → level ≡ other

-- The pages of a transaction show a tree with this root, which with these settled blocks represents these versions.
pub record RepresentsVersions {P : Type 0} (pages : Ghosts P) (held : P) (blocks : ℕ → Option BlockNode) (all : List Version) (root level : ℕ) : Type 0 where
  pub start : Start
  pub shown : List (List ℕ)
  pub shows : pages.shows held start shown
  pub nodes : ℕ → Option PageNode
  pub limit : ℕ
  pub next : ℕ
  pub reports : RepresentNodes shown nodes
  pub tree : TreeRepresents (record { nodes = nodes; limit = limit; blocks = blocks; next = next }) all root level
