-- Versions for which a tree has no room.
use Rattle.std.specs.Prelude.{◌≡◌, ℕ, ◌≤◌, List, length}
use Rattle.page_tx.specs.declared.error.PageError.TheVariants as pages
use Rattle.tsb_walk.specs.declared.page_place.PagePlace.{PagePlace}
use Rattle.tsb_walk.specs.PageWays.{IsLower}
use Rattle.tsb_walk.specs.Shown.{RepresentsNode, keys_at}
use Rattle.version_model.specs.declared.part.Part.{Part}
use Rattle.version_model.specs.Pages.{ColumnNode, all_keys}
use Rattle.version_model.specs.Versions.{Version}
use Rattle.tsb_tree.specs.declared.error.TreeError.{TreeError}
use Rattle.tsb_tree.specs.declared.error.TreeError.TheVariants as errors
use Rattle.tsb_tree.specs.Read.{IsLeafOf, IsFilled}

-- The version's key leads from a place down to a column whose current leaf has no room for the version.
pub data LeadsToFullLeaf (shown : List (List ℕ)) (v : Version) : PagePlace → Type 0 where
  in_leaf : (column : PagePlace) (page : ℕ) (image : List ℕ) → IsLeafOf shown column page image → IsFilled column image v → LeadsToFullLeaf shown v column
  in_child : (place next : PagePlace) → IsLower shown v.key place next → LeadsToFullLeaf shown v next → LeadsToFullLeaf shown v place

-- The version's key leads from a place down to a column whose page has as many parts as one can have.
pub data LeadsToFullColumn (shown : List (List ℕ)) (v : Version) : PagePlace → Type 0 where
  full_column : (column : PagePlace) (parts : List Part) (start current : ℕ) → RepresentsNode shown column.page (ColumnNode (keys_at column) parts start current) → 648 ≤ length parts → LeadsToFullColumn shown v column
  full_column_below : (place next : PagePlace) → IsLower shown v.key place next → LeadsToFullColumn shown v next → LeadsToFullColumn shown v place

-- the fact holds of the root of a tree: in this page, of this level, with all keys
abbrev pub AtRoot : (PagePlace → Type 0) → ℕ → ℕ → Type 0
AtRoot fact root level = (place : PagePlace) × (place.page ≡ root) × (place.level ≡ level) × (keys_at place ≡ all_keys) × fact place

-- an error that means a lack of pages, of blocks or of levels
abbrev pub IsForRoom : TreeError → Type 0
IsForRoom errors.StampBack = ⊥
IsForRoom errors.TooHigh = Unit {0}
IsForRoom (errors.BadNode page) = ⊥
IsForRoom (errors.Damaged block) = ⊥
IsForRoom (errors.Pages pages.PagesFull) = Unit {0}
IsForRoom (errors.Pages pages.TooManyImages) = ⊥
IsForRoom (errors.Pages pages.OutOfMemory) = ⊥
IsForRoom (errors.Pages pages.Fault) = ⊥
IsForRoom (errors.Pages pages.NeedsRecovery) = ⊥
IsForRoom (errors.Once refusal) = Unit {0}
IsForRoom errors.OutOfMemory = ⊥
