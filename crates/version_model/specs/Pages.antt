-- What pages represent, and how the nodes of a tree represent versions.
use Rattle.std.specs.Prelude.{◌≡◌, ℕ, suc, ◌<◌, ◌≤◌, ◌⊎◌, List, [], Option, Some, None, slice_get}
use Rattle.version_model.specs.declared.part.Part.{Part}
use Rattle.version_model.specs.declared.child.Child.{Child}
use Rattle.version_model.specs.Versions.{Version, Has, IsAbove, IsRising}
use Rattle.version_model.specs.Ranges.{Range, key_end, stamp_end}
use Rattle.version_model.specs.LeafVersions.{LeafRepresents}
use Rattle.version_model.specs.Blocks.{BlockNode, IsPartOf, AreParts, PartRepresents}

-- the keys from `low` on and below `high`
pub record Keys : Type 0 where
  pub low : ℕ
  pub high : ℕ

-- what a page represents: the current leaf of a column; a column's parts, with start and page of its current leaf; or the children of a key node
pub data PageNode : Type 0 where
  CurrentLeaf : (keys : Keys) (start : ℕ) (versions : List Version) → PageNode
  ColumnNode : (keys : Keys) (parts : List Part) (start current : ℕ) → PageNode
  KeyNode : (level : ℕ) (keys : Keys) (children : List Child) → PageNode

-- the range of a column's past, up to the start of its current leaf
abbrev pub past_range : Keys → ℕ → Range
past_range keys start = record { low = keys.low; high = keys.high; start = 0; end = start }

-- the range of a column's current leaf, from its start on
abbrev pub current_range : Keys → ℕ → Range
current_range keys start = record { low = keys.low; high = keys.high; start = start; end = stamp_end }

-- the parts represent all versions before the start of the current leaf; a column that starts at the beginning has none
pub record PartsRepresent (blocks : ℕ → Option BlockNode) (next : ℕ) (all : List Version) (keys : Keys) (start : ℕ) (parts : List Part) : Type 0 where
  pub are_parts : ((parts ≡ []) × (start ≡ 0)) ⊎ AreParts (past_range keys start) parts next
  pub stand : (s : Range) (part : Part) → IsPartOf (past_range keys start) parts s part → PartRepresents blocks all s part

-- A column represents the versions of its keys: a page represents it, another its current leaf, which shows the versions from its start
-- on; the parts represent those before. The current leaf starts before any version to come.
pub record ColumnRepresents (nodes : ℕ → Option PageNode) (limit : ℕ) (blocks : ℕ → Option BlockNode) (next : ℕ) (all : List Version) (keys : Keys) (page : ℕ) : Type 0 where
  pub parts : List Part
  pub current : ℕ
  pub start : ℕ
  pub versions : List Version
  pub in_limit : page < limit
  pub at : nodes page ≡ Some (ColumnNode keys parts start current)
  pub current_in_limit : current < limit
  pub at_current : nodes current ≡ Some (CurrentLeaf keys start versions)
  pub shows : LeafRepresents all (current_range keys start) versions
  pub past : PartsRepresent blocks next all keys start parts
  pub started : (s : ℕ) → ((v : Version) → Has all v → v.stamp < s) → (start < s) ⊎ (start ≡ 0)

-- the child's lowest key; without one, the high key
abbrev pub low_or : ℕ → Option Child → ℕ
low_or high None = high
low_or high (Some child) = child.low

-- the keys of the child at place i: from its lowest up to the next one's lowest
abbrev pub child_keys : Keys → List Child → ℕ → Child → Keys
child_keys keys children i child = record { low = child.low; high = low_or keys.high (slice_get children (suc i)) }

-- the child is one of the children, and `inner` are its keys
pub record IsChildOf (keys : Keys) (children : List Child) (inner : Keys) (child : Child) : Type 0 where
  pub place : ℕ
  pub at : slice_get children place ≡ Some child
  pub range : child_keys keys children place child ≡ inner

-- the children follow one another from the lowest key to the highest, none without keys
pub record AreChildren (keys : Keys) (children : List Child) : Type 0 where
  pub first : Child
  pub at_first : slice_get children 0 ≡ Some first
  pub from_low : first.low ≡ keys.low
  pub inside : (inner : Keys) (child : Child) → IsChildOf keys children inner child → (keys.low ≤ inner.low) × (inner.low < inner.high) × (inner.high ≤ keys.high)

-- A page of a level represents the versions of its keys: at level 1 a column, above it a key node each of whose children, one level
-- lower, represents the versions of its own keys.
pub data NodeRepresents (nodes : ℕ → Option PageNode) (limit : ℕ) (blocks : ℕ → Option BlockNode) (next : ℕ) (all : List Version) : ℕ → Keys → ℕ → Type 0 where
  column : (keys : Keys) (page : ℕ) → ColumnRepresents nodes limit blocks next all keys page → NodeRepresents nodes limit blocks next all 1 keys page
  key_node : (level : ℕ) (keys : Keys) (page : ℕ) (children : List Child) → page < limit → nodes page ≡ Some (KeyNode (suc level) keys children) → AreChildren keys children
      → ((inner : Keys) (child : Child) → IsChildOf keys children inner child → NodeRepresents nodes limit blocks next all level inner child.page)
      → NodeRepresents nodes limit blocks next all (suc level) keys page

-- what the pages and the settled blocks represent, and up to where each are in use
pub record Store : Type 0 where
  pub nodes : ℕ → Option PageNode
  pub limit : ℕ
  pub blocks : ℕ → Option BlockNode
  pub next : ℕ

-- the page stands, by what a store represents
abbrev pub NodeRepresentsIn : Store → List Version → ℕ → Keys → ℕ → Type 0
NodeRepresentsIn s all level keys page = NodeRepresents s.nodes s.limit s.blocks s.next all level keys page

-- all keys that there are
abbrev pub all_keys : Keys
all_keys = record { low = 0; high = key_end }

-- The tree with this root represents all these versions: the root for those of all keys; they are in the order of their stamps, and
-- their keys and stamps are keys and stamps. A tree has at most six levels of key nodes.
pub record TreeRepresents (s : Store) (all : List Version) (root level : ℕ) : Type 0 where
  pub some_level : 1 ≤ level
  pub few_levels : level ≤ 7
  pub represents_all : NodeRepresentsIn s all level all_keys root
  pub rising : IsRising all
  pub in_keys : (v : Version) → Has all v → v.key < key_end
  pub in_time : (v : Version) → Has all v → v.stamp < stamp_end

-- the least stamp that a version to come may have
pub record IsNextStamp (all : List Version) (least : ℕ) : Type 0 where
  pub above : IsAbove all least
  pub least_is : (s : ℕ) → IsAbove all s → least ≤ s
