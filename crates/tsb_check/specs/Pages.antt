-- How versions are counted when every page of a tree and every block of its past is read.
use Rattle.std.specs.Prelude.{◌≡◌, ℕ, ◌+◌, ◌-◌, List, [], ◌∷◌, Option, Some}
use Rattle.tsb_walk.specs.declared.page_place.PagePlace.{PagePlace}
use Rattle.tsb_walk.specs.Shown.{RepresentsNode, keys_at}
use Rattle.tsb_walk.specs.PageWays.{IsNoKeyNode, IsNoColumn, IsNoLeaf}
use Rattle.version_model.specs.declared.part.Part.{Part}
use Rattle.version_model.specs.declared.part.Place.{Place}
use Rattle.version_model.specs.declared.child.Child.{Child}
use Rattle.version_model.specs.Versions.{Version}
use Rattle.version_model.specs.Counts.{count_in}
use Rattle.version_model.specs.Pages.{CurrentLeaf, ColumnNode, KeyNode, current_range}
use Rattle.tsb_check.specs.Counted.{AreCounted, MeetUnknown, MeetDamage, IsOneOf, places_of, reported}

-- the lowest key of the first of some children; without one, the high key
abbrev pub high_at : Option ℕ → List Child → Option ℕ
high_at high [] = high
high_at high (child ∷ children) = Some child.low

-- the places of children of this level, each up to where the next one begins, the last one up to a high key
abbrev pub children_of : ℕ → Option ℕ → List Child → List PagePlace
children_of level high [] = []
children_of level high (child ∷ children) = record { page = child.page; level = level; low = child.low; high = high_at high children } ∷ children_of level high children

-- the places of the children of a key node
abbrev pub places_under : PagePlace → List Child → List PagePlace
places_under place children = children_of (place.level - 1) place.high children

-- the places of the past of a column whose current leaf starts there
abbrev pub past_of : PagePlace → List Part → ℕ → List Place
past_of place parts start = places_of (record { low = place.low; high = place.high; start = 0; end = Some start }) parts

-- Every page at some places, and every one below them, represents what its place asks for, and so do the blocks of the past. This many versions
-- are counted: those of the past of each column, and those of its keys that its current leaf has from its start on.
pub data AreCountedUnder (shown : List (List ℕ)) (known : ℕ → Option (List ℕ)) (count : ℕ) : List PagePlace → ℕ → Type 0 where
  none_under : AreCountedUnder shown known count [] 0
  column_under : (place : PagePlace) (rest : List PagePlace) (parts : List Part) (start current : ℕ) (versions : List Version) (n m : ℕ) → place.level ≡ 1 → RepresentsNode shown place.page (ColumnNode (keys_at place) parts start current)
      → RepresentsNode shown current (CurrentLeaf (keys_at place) start versions) → AreCounted known count (past_of place parts start) n → AreCountedUnder shown known count rest m
      → AreCountedUnder shown known count (place ∷ rest) (n + count_in versions (current_range (keys_at place) start) + m)
  children_under : (place : PagePlace) (rest : List PagePlace) (children : List Child) (n m : ℕ) → RepresentsNode shown place.page (KeyNode place.level (keys_at place) children)
      → AreCountedUnder shown known count (places_under place children) n → AreCountedUnder shown known count rest m → AreCountedUnder shown known count (place ∷ rest) (n + m)

-- the place is one of some places, or that of a child of a key node to which they lead
pub data IsUnder (shown : List (List ℕ)) (places : List PagePlace) : PagePlace → Type 0 where
  at_top : (place : PagePlace) → IsOneOf places place → IsUnder shown places place
  as_child : (place next : PagePlace) (children : List Child) → IsUnder shown places place → RepresentsNode shown place.page (KeyNode place.level (keys_at place) children) → IsOneOf (places_under place children) next
      → IsUnder shown places next

-- some places lead to this column, with its parts, and its current leaf from a start on in a page
pub record IsColumnUnder (shown : List (List ℕ)) (places : List PagePlace) (column : PagePlace) (parts : List Part) (start current : ℕ) : Type 0 where
  pub under : IsUnder shown places column
  pub lowest : column.level ≡ 1
  pub represents_node : RepresentsNode shown column.page (ColumnNode (keys_at column) parts start current)

-- Some places lead to this page, and it isn't what it is to be: a key node of its place's level and keys, a column of its keys, or the
-- current leaf of its column.
pub data IsBadUnder (shown : List (List ℕ)) (places : List PagePlace) : ℕ → Type 0 where
  no_key_node : (place : PagePlace) → IsUnder shown places place → (place.level ≡ 1 → ⊥) → IsNoKeyNode shown place → IsBadUnder shown places place.page
  no_column : (place : PagePlace) → IsUnder shown places place → place.level ≡ 1 → IsNoColumn shown place → IsBadUnder shown places place.page
  no_leaf : (column : PagePlace) (parts : List Part) (start current : ℕ) → IsColumnUnder shown places column parts start current → IsNoLeaf shown column start current → IsBadUnder shown places current

-- a count of the versions of the tree at some places returns n
pub record ReportsTree (shown : List (List ℕ)) (known : ℕ → Option (List ℕ)) (count : ℕ) (places : List PagePlace) (n : ℕ) : Type 0 where
  pub total : ℕ
  pub counted : AreCountedUnder shown known count places total
  pub is : n ≡ reported total

-- the past of a column to which some places lead leads to a block that isn't known
pub record IsUnknownUnder (shown : List (List ℕ)) (known : ℕ → Option (List ℕ)) (count : ℕ) (places : List PagePlace) : Type 0 where
  pub column : PagePlace
  pub parts : List Part
  pub start : ℕ
  pub current : ℕ
  pub is : IsColumnUnder shown places column parts start current
  pub unknown : MeetUnknown known count (past_of column parts start)

-- the past of a column to which some places lead leads to this block, and it isn't what its place asks for
pub record IsDamagedUnder (shown : List (List ℕ)) (known : ℕ → Option (List ℕ)) (count : ℕ) (places : List PagePlace) (block : ℕ) : Type 0 where
  pub column : PagePlace
  pub parts : List Part
  pub start : ℕ
  pub current : ℕ
  pub is : IsColumnUnder shown places column parts start current
  pub damage : MeetDamage known count (past_of column parts start) block
