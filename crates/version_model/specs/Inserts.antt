-- What a node becomes when it takes a version, and which pages stay as they are.
use Rattle.std.specs.Prelude.{◌≡◌, ℕ, ◌<◌, ◌≤◌, List, Option, Some, None}
use Rattle.version_model.specs.declared.child.Child.{Child}
use Rattle.version_model.specs.Versions.{Version, IsAbove, Adds}
use Rattle.version_model.specs.Ranges.{IsKeyOf}
use Rattle.version_model.specs.Blocks.{Grows}
use Rattle.version_model.specs.Pages.{Keys, PageNode, CurrentLeaf, ColumnNode, KeyNode, Store, NodeRepresentsIn, current_range}

-- the keys of a page
abbrev pub keys_of : PageNode → Keys
keys_of (CurrentLeaf keys start versions) = keys
keys_of (ColumnNode keys parts start current) = keys
keys_of (KeyNode level keys children) = keys

-- the level of a page: 0 of a current leaf, 1 of a column, and its own of a key node
abbrev pub level_of : PageNode → ℕ
level_of (CurrentLeaf keys start versions) = 0
level_of (ColumnNode keys parts start current) = 1
level_of (KeyNode level keys children) = level

-- what a page represents is of this level at most, and of keys among these alone
pub record LocatedUnder (level : ℕ) (keys : Keys) (node : PageNode) : Type 0 where
  pub no_higher : level_of node ≤ level
  pub low : keys.low ≤ (keys_of node).low
  pub nonempty : (keys_of node).low < (keys_of node).high
  pub high : (keys_of node).high ≤ keys.high

-- each page in use represents what it represented, but for those that lie under the level and the keys
abbrev pub KeepsOthers : (ℕ → Option PageNode) → (ℕ → Option PageNode) → ℕ → ℕ → Keys → Type 0
KeepsOthers nodes nodes' limit level keys = (page : ℕ) (node : PageNode) → page < limit → nodes page ≡ Some node → (LocatedUnder level keys node → ⊥) → nodes' page ≡ Some node

-- each page in use that lies under the level and the keys represents what it represented
abbrev pub KeepsUnder : (ℕ → Option PageNode) → (ℕ → Option PageNode) → ℕ → ℕ → Keys → Type 0
KeepsUnder nodes nodes' limit level keys = (page : ℕ) (node : PageNode) → page < limit → nodes page ≡ Some node → LocatedUnder level keys node → nodes' page ≡ Some node

-- what a node has become: itself, or two, of which the new one has the keys from its lowest on
abbrev pub Became : Store → List Version → ℕ → Keys → ℕ → Option Child → Type 0
Became t all level keys page None = NodeRepresentsIn t all level keys page
Became t all level keys page (Some new) = (keys.low < new.low) × (new.low < keys.high)
    × NodeRepresentsIn t all level (record { low = keys.low; high = new.low }) page × NodeRepresentsIn t all level (record { low = new.low; high = keys.high }) new.page

-- From one store to the next, the node takes the version and may become two by it: wherever it represented some versions, it represents
-- these and the new one. Blocks stay, and pages that don't lie under the node represent what they represented.
pub record Splits (s t : Store) (v : Version) (level page : ℕ) (new : Option Child) : Type 0 where
  pub grows : Grows s.blocks t.blocks
  pub next_grows : s.next ≤ t.next
  pub limit_grows : s.limit ≤ t.limit
  pub represents_all : (all after : List Version) (keys : Keys) → IsKeyOf (current_range keys 0) v.key → IsAbove all v.stamp → Adds all v after → NodeRepresentsIn s all level keys page → Became t after level keys page new
  pub others : (all : List Version) (keys : Keys) → NodeRepresentsIn s all level keys page → KeepsOthers s.nodes t.nodes s.limit level keys

-- from one store to the next, one page is written and nothing else
pub record Writes (s t : Store) (page : ℕ) (node : PageNode) : Type 0 where
  pub at : t.nodes page ≡ Some node
  pub others : (p : ℕ) → (p ≡ page → ⊥) → t.nodes p ≡ s.nodes p
  pub limit : t.limit ≡ s.limit
  pub blocks : t.blocks ≡ s.blocks
  pub next : t.next ≡ s.next
