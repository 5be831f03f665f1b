-- Columns as their pages are read.
use Rattle.std.specs.Prelude.{◌≡◌, ℕ, ◌+◌, ◌<◌, ◌≤◌, ◌⊎◌, List, [], Some, slice_get}
use Rattle.tsb_node.specs.Views.{PageRepresents}
use Rattle.tsb_walk.specs.declared.page_place.PagePlace.{PagePlace}
use Rattle.tsb_walk.specs.Shown.{RepresentsNode, keys_at}
use Rattle.version_model.specs.declared.part.Part.{Part}
use Rattle.version_model.specs.Blocks.{AreParts}
use Rattle.version_model.specs.Pages.{ColumnNode, CurrentLeaf, past_range}
use Rattle.version_model.specs.Sizes.{octets, entry_octets}
use Rattle.version_model.specs.Versions.{Version}

-- The octets represent a column of exactly the place's keys, whose parts follow one another up to the start of its current leaf. That isn't
-- after the stamp.
pub record IsColumnFor (octets : List ℕ) (place : PagePlace) (stamp : ℕ) (parts : List Part) (start current next : ℕ) : Type 0 where
  pub represents_node : PageRepresents octets (ColumnNode (keys_at place) parts start current)
  pub are_parts : (parts ≡ []) ⊎ AreParts (past_range (keys_at place) start) parts next
  pub before : start ≤ stamp

-- the page of this number has this image, which represents the current leaf of the column at the place
pub record IsLeafOf (shown : List (List ℕ)) (place : PagePlace) (page : ℕ) (image : List ℕ) : Type 0 where
  pub parts : List Part
  pub start : ℕ
  pub versions : List Version
  pub column : RepresentsNode shown place.page (ColumnNode (keys_at place) parts start page)
  pub at : slice_get shown page ≡ Some image
  pub represents_node : PageRepresents image (CurrentLeaf (keys_at place) start versions)

-- The shown pages represent a column of exactly the place's keys and its current leaf. The column's parts follow one another up to the start of
-- that leaf, which isn't after the stamp.
pub record RepresentsColumn (shown : List (List ℕ)) (place : PagePlace) (stamp : ℕ) : Type 0 where
  pub parts : List Part
  pub start : ℕ
  pub current : ℕ
  pub next : ℕ
  pub versions : List Version
  pub column : RepresentsNode shown place.page (ColumnNode (keys_at place) parts start current)
  pub leaf : RepresentsNode shown current (CurrentLeaf (keys_at place) start versions)
  pub are_parts : (parts ≡ []) ⊎ AreParts (past_range (keys_at place) start) parts next
  pub before : start ≤ stamp

-- the image represents a current leaf of the place's keys that has no room for the version
pub record IsFilled (place : PagePlace) (image : List ℕ) (v : Version) : Type 0 where
  pub start : ℕ
  pub versions : List Version
  pub represents_node : PageRepresents image (CurrentLeaf (keys_at place) start versions)
  pub filled : 16232 < octets versions + entry_octets v
