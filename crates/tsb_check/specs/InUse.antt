-- Pages and blocks of a tree that are in use.
use Rattle.std.specs.Prelude.{◌≡◌, ℕ, ◌<◌, ◌≤◌, List}
use Rattle.tsb_walk.specs.declared.page_place.PagePlace.{PagePlace}
use Rattle.tsb_walk.specs.Shown.{RepresentsNode, keys_at}
use Rattle.version_model.specs.declared.part.Part.{Part}
use Rattle.version_model.specs.Pages.{ColumnNode, Store}
use Rattle.tsb_check.specs.declared.in_use.InUse.{InUse}
use Rattle.tsb_check.specs.Counted.{AreLower}
use Rattle.tsb_check.specs.Pages.{IsUnder, IsColumnUnder}

-- the column on this page, its current leaf and the blocks that it names are in use
pub record IsColumnUsed (in_use : InUse) (page : ℕ) (parts : List Part) (current : ℕ) : Type 0 where
  pub page_used : page < in_use.pages
  pub current_used : current < in_use.pages
  pub tried : AreLower in_use.blocks parts
  pub burnt : AreLower in_use.burnt parts

-- The page at fault for a column that uses what isn't in use: the column's own, if it names a block that was never burnt; or the page with
-- the record of what is in use, if the column, its current leaf or a block that it names isn't.
pub data IsColumnUnused (in_use : InUse) (page : ℕ) (parts : List Part) (current : ℕ) : ℕ → Type 0 where
  never_burnt : (AreLower in_use.burnt parts → ⊥) → IsColumnUnused in_use page parts current page
  never_tried : (AreLower in_use.blocks parts → ⊥) → IsColumnUnused in_use page parts current in_use.recorded_on
  page_unused : in_use.pages ≤ page → IsColumnUnused in_use page parts current in_use.recorded_on
  leaf_unused : in_use.pages ≤ current → IsColumnUnused in_use page parts current in_use.recorded_on

-- the page at a place is in use, and where it is a column, the column is
pub record IsPlaceUsed (shown : List (List ℕ)) (in_use : InUse) (place : PagePlace) : Type 0 where
  pub page_used : place.page < in_use.pages
  pub column_used : (parts : List Part) (start current : ℕ) → place.level ≡ 1 → RepresentsNode shown place.page (ColumnNode (keys_at place) parts start current) → IsColumnUsed in_use place.page parts current

-- all that some places lead to is in use
abbrev pub AreInUse : List (List ℕ) → InUse → List PagePlace → Type 0
AreInUse shown in_use places = (place : PagePlace) → IsUnder shown places place → IsPlaceUsed shown in_use place

-- Some places lead to a page that isn't in use, for which the page with the record is at fault; or to a column that uses what isn't in use.
pub data IsUnusedUnder (shown : List (List ℕ)) (in_use : InUse) (places : List PagePlace) : ℕ → Type 0 where
  unused_place : (place : PagePlace) → IsUnder shown places place → in_use.pages ≤ place.page → IsUnusedUnder shown in_use places in_use.recorded_on
  unused_column : (column : PagePlace) (parts : List Part) (start current page : ℕ) → IsColumnUnder shown places column parts start current → IsColumnUnused in_use column.page parts current page
      → IsUnusedUnder shown in_use places page

-- a store uses no page and no block but those that are in use
pub record IsWithin (s : Store) (in_use : InUse) : Type 0 where
  pub pages : s.limit ≤ in_use.pages
  pub tried : s.next ≤ in_use.blocks
  pub burnt : s.next ≤ in_use.burnt
