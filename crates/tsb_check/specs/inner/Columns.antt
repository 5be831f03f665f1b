-- What is returned of one column.
use Rattle.std.specs.Prelude.{◌≡◌, ℕ, ◌+◌, List, Option}
use Rattle.tsb_node.specs.declared.decoded_column.DecodedColumn.{DecodedColumn}
use Rattle.tsb_walk.specs.declared.page_place.PagePlace.{PagePlace}
use Rattle.tsb_walk.specs.Shown.{RepresentsNode, keys_at}
use Rattle.tsb_walk.specs.PageWays.{IsNoColumn, IsNoLeaf}
use Rattle.version_model.specs.declared.part.Part.{Part}
use Rattle.version_model.specs.Versions.{Version}
use Rattle.version_model.specs.Counts.{count_in}
use Rattle.version_model.specs.Pages.{CurrentLeaf, ColumnNode, current_range}
use Rattle.tsb_check.specs.Counted.{AreCounted, MeetUnknown, MeetDamage, reported}
use Rattle.tsb_check.specs.declared.in_use.InUse.{InUse}
use Rattle.tsb_check.specs.InUse.{IsColumnUsed, IsColumnUnused}
use Rattle.tsb_check.specs.Pages.{past_of}

-- a page represents the column at a place
pub record IsColumnAt (shown : List (List ℕ)) (place : PagePlace) : Type 0 where
  pub parts : List Part
  pub start : ℕ
  pub current : ℕ
  pub represents_node : RepresentsNode shown place.page (ColumnNode (keys_at place) parts start current)

-- a page represents this column at a place, and n versions are of its keys in its current leaf, from the start on
pub record HasCurrent (shown : List (List ℕ)) (place : PagePlace) (decoded : DecodedColumn) (n : ℕ) : Type 0 where
  pub represents_node : RepresentsNode shown place.page (ColumnNode (keys_at place) decoded.parts.items decoded.current.start decoded.current.page)
  pub versions : List Version
  pub leaf : RepresentsNode shown decoded.current.page (CurrentLeaf (keys_at place) decoded.current.start versions)
  pub is : n ≡ count_in versions (current_range (keys_at place) decoded.current.start)

-- a count of its versions returns n
pub record ReportsColumn (shown : List (List ℕ)) (known : ℕ → Option (List ℕ)) (count : ℕ) (place : PagePlace) (n : ℕ) : Type 0 where
  pub column : IsColumnAt shown place
  pub versions : List Version
  pub leaf : RepresentsNode shown column.current (CurrentLeaf (keys_at place) column.start versions)
  pub past : ℕ
  pub counted : AreCounted known count (past_of place column.parts column.start) past
  pub is : n ≡ reported (past + count_in versions (current_range (keys_at place) column.start))

-- the page isn't the column, or isn't its current leaf
pub data IsBadColumn (shown : List (List ℕ)) (place : PagePlace) : ℕ → Type 0 where
  bad_column : IsNoColumn shown place → IsBadColumn shown place place.page
  bad_leaf : (column : IsColumnAt shown place) → IsNoLeaf shown place column.start column.current → IsBadColumn shown place column.current

-- its past leads to a block that isn't known
pub record IsUnknownIn (shown : List (List ℕ)) (known : ℕ → Option (List ℕ)) (count : ℕ) (place : PagePlace) : Type 0 where
  pub column : IsColumnAt shown place
  pub unknown : MeetUnknown known count (past_of place column.parts column.start)

-- its past leads to this block, which isn't what its place asks for
pub record IsDamagedIn (shown : List (List ℕ)) (known : ℕ → Option (List ℕ)) (count : ℕ) (place : PagePlace) (block : ℕ) : Type 0 where
  pub column : IsColumnAt shown place
  pub damage : MeetDamage known count (past_of place column.parts column.start) block

-- a page represents the column, and all that the column uses is in use
pub record IsUsedColumn (shown : List (List ℕ)) (in_use : InUse) (place : PagePlace) : Type 0 where
  pub column : IsColumnAt shown place
  pub used : IsColumnUsed in_use place.page column.parts column.current

-- a page represents the column, and not all that it uses is in use, for which this page is at fault
pub record IsUnusedColumn (shown : List (List ℕ)) (in_use : InUse) (place : PagePlace) (page : ℕ) : Type 0 where
  pub column : IsColumnAt shown place
  pub unused : IsColumnUnused in_use place.page column.parts column.current page
