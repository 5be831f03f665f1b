-- The paths of keys through the pages of a tree. A walk reads of each page what it needs to go on, so a path is where the pages lead:
-- if they are the nodes that they have to be, it is the path to the key's column.
use Rattle.std.specs.Prelude.{◌≡◌, ℕ, suc, ◌<◌, List}
use Rattle.tsb_walk.specs.declared.page_place.PagePlace.{PagePlace}
use Rattle.tsb_walk.specs.Shown.{RepresentsNode, keys_at, HasKey}
use Rattle.version_model.specs.declared.part.Part.{Part}
use Rattle.version_model.specs.declared.child.Child.{Child}
use Rattle.version_model.specs.Versions.{Version}
use Rattle.version_model.specs.Pages.{CurrentLeaf, ColumnNode, KeyNode, IsChildOf}

-- the page represents a key node of exactly its level and keys; the other place is its child with the key, one level below, of exactly the child's keys
pub record IsLower (shown : List (List ℕ)) (key : ℕ) (place next : PagePlace) : Type 0 where
  pub children : List Child
  pub represents_node : RepresentsNode shown place.page (KeyNode place.level (keys_at place) children)
  pub child : IsChildOf (keys_at place) children (keys_at next) (record { low = next.low; page = next.page })
  pub level : suc next.level ≡ place.level
  pub has : HasKey next key

-- If the page represents a key node of its level and its keys, the other place is its child that has the key. Of other pages it is known
-- only that the next place is one level below, and has to have the key.
pub record IsLed (shown : List (List ℕ)) (key : ℕ) (place next : PagePlace) : Type 0 where
  pub lower : (children : List Child) → RepresentsNode shown place.page (KeyNode place.level (keys_at place) children) → IsLower shown key place next
  pub above : 1 < place.level
  pub level : suc next.level ≡ place.level
  pub has : HasKey next key

-- the path of a key from one page down to another, as the pages lead it
pub data PageWay (shown : List (List ℕ)) (key : ℕ) : PagePlace → PagePlace → Type 0 where
  here : (place : PagePlace) → PageWay shown key place place
  further : (first place next : PagePlace) → PageWay shown key first place → IsLed shown key place next → PageWay shown key first next

-- the page doesn't represent a key node of its level and its keys
abbrev pub IsNoKeyNode : List (List ℕ) → PagePlace → Type 0
IsNoKeyNode shown place = (children : List Child) → RepresentsNode shown place.page (KeyNode place.level (keys_at place) children) → ⊥

-- the page doesn't represent a column of its keys
abbrev pub IsNoColumn : List (List ℕ) → PagePlace → Type 0
IsNoColumn shown place = (parts : List Part) (start current : ℕ) → RepresentsNode shown place.page (ColumnNode (keys_at place) parts start current) → ⊥

-- the page doesn't represent the current leaf of the column's keys from this start on
abbrev pub IsNoLeaf : List (List ℕ) → PagePlace → ℕ → ℕ → Type 0
IsNoLeaf shown column start page = (versions : List Version) → RepresentsNode shown page (CurrentLeaf (keys_at column) start versions) → ⊥

-- the path of the key comes to this place of a column
pub record ComesToColumn (shown : List (List ℕ)) (root : PagePlace) (key : ℕ) (column : PagePlace) : Type 0 where
  pub way : PageWay shown key root column
  pub lowest : column.level ≡ 1
  pub has : HasKey column key

-- the path of the key comes to this page, which isn't the key node that it has to be
pub record IsBadKeyNode (shown : List (List ℕ)) (root : PagePlace) (key page : ℕ) : Type 0 where
  pub last : PagePlace
  pub way : PageWay shown key root last
  pub above : 1 < last.level
  pub is : last.page ≡ page
  pub bad : IsNoKeyNode shown last
