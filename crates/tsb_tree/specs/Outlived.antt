-- Leaves that have a version which isn't needed any more once they take another one.
use Rattle.std.specs.Prelude.{◌≡◌, ℕ, ◌<◌, ◌⊎◌, List, [], ◌∷◌, ◌++◌, None}
use Rattle.tsb_node.specs.Views.{PageRepresents}
use Rattle.tsb_walk.specs.declared.page_place.PagePlace.{PagePlace}
use Rattle.tsb_walk.specs.PageWays.{IsLower}
use Rattle.tsb_walk.specs.Shown.{keys_at}
use Rattle.version_model.specs.Pages.{CurrentLeaf}
use Rattle.version_model.specs.Versions.{Version, Has}
use Rattle.tsb_tree.specs.Read.{IsLeafOf, IsFilled}

-- the version is an end, or its key has a later one among these
abbrev pub IsOutlived : List Version → Version → Type 0
IsOutlived all old = (old.value ≡ None) ⊎ ((w : Version) × Has all w × (w.key ≡ old.key) × (old.stamp < w.stamp))

-- a leaf of these versions has one that is outlived once it takes another one
abbrev pub HasOutlived : List Version → Version → Type 0
HasOutlived leaf v = (old : Version) × Has leaf old × IsOutlived (leaf ++ v ∷ []) old

-- the image represents a current leaf of the place's keys, which has a version that is outlived once it takes this one
pub record IsOutdated (place : PagePlace) (image : List ℕ) (v : Version) : Type 0 where
  pub start : ℕ
  pub versions : List Version
  pub represents_node : PageRepresents image (CurrentLeaf (keys_at place) start versions)
  pub outlived : HasOutlived versions v

-- The version's key leads from a place down to a column whose current leaf has no room for the version, and has one that is outlived once
-- it takes it: so there is something that a time split moves.
pub data LeadsToOutdated (shown : List (List ℕ)) (v : Version) : PagePlace → Type 0 where
  outdated_leaf : (column : PagePlace) (page : ℕ) (image : List ℕ) → IsLeafOf shown column page image → IsFilled column image v → IsOutdated column image v → LeadsToOutdated shown v column
  outdated_below : (place next : PagePlace) → IsLower shown v.key place next → LeadsToOutdated shown v next → LeadsToOutdated shown v place
