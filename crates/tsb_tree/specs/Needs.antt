-- How many pages that were never used a tree needs, to take a version.
use Rattle.std.specs.Prelude.{◌≡◌, ℕ, suc, ◌+◌, ◌<◌, ◌≤◌, List, [], ◌∷◌, ◌++◌, length}
use Rattle.tsb_walk.specs.declared.page_place.PagePlace.{PagePlace}
use Rattle.tsb_walk.specs.PageWays.{IsLower}
use Rattle.tsb_walk.specs.Shown.{RepresentsNode, keys_at}
use Rattle.version_model.specs.declared.part.Part.{Part}
use Rattle.version_model.specs.Pages.{ColumnNode, CurrentLeaf}
use Rattle.version_model.specs.LeafVersions.{IsFrom}
use Rattle.version_model.specs.Sizes.{octets, entry_octets}
use Rattle.version_model.specs.Versions.{Version, IsRising}

-- the shown pages represent a column of exactly the place's keys, whose current leaf has these versions
pub record HasLeaf (shown : List (List ℕ)) (place : PagePlace) (leaf : List Version) : Type 0 where
  pub parts : List Part
  pub start : ℕ
  pub page : ℕ
  pub column : RepresentsNode shown place.page (ColumnNode (keys_at place) parts start page)
  pub current : RepresentsNode shown page (CurrentLeaf (keys_at place) start leaf)

-- what stays of a leaf that is split by time at a stamp
pub record IsWhatStays (leaf : List Version) (at : ℕ) (stays : List Version) : Type 0 where
  pub from : IsFrom leaf at stays
  pub rising : IsRising stays

-- The node at a place becomes two where it takes the version, for which this many pages are needed. A column does whose leaf has no room
-- for the version, where more than two thirds of a page stay of leaf and version when they are split by time at the version's stamp: its
-- new half has two pages. A key node does that has as many children as one can have, and whose child becomes two: its new half has one.
pub data BecomesTwo (shown : List (List ℕ)) (v : Version) : PagePlace → ℕ → Type 0 where
  split_by_key : (column : PagePlace) (leaf stays : List Version) → HasLeaf shown column leaf → 16232 < octets leaf + entry_octets v → IsWhatStays (leaf ++ v ∷ []) v.stamp stays → 10821 < octets stays → BecomesTwo shown v column 2
  split_key_node : (place next : PagePlace) (n : ℕ) (lower : IsLower shown v.key place next) → length lower.children ≡ 338 → BecomesTwo shown v next n → BecomesTwo shown v place (suc n)

-- The node at a place takes the version and stays one, for which this many pages are needed. A column does whose leaf has room for the
-- version, or which a split by time gives room. A key node does whose child stays one, or which has room for the new half of its child.
pub data StaysOne (shown : List (List ℕ)) (v : Version) : PagePlace → ℕ → Type 0 where
  leaf_with_room : (column : PagePlace) (leaf : List Version) → HasLeaf shown column leaf → octets leaf + entry_octets v ≤ 16232 → StaysOne shown v column 0
  split_by_time : (column : PagePlace) (leaf stays : List Version) → HasLeaf shown column leaf → 16232 < octets leaf + entry_octets v → IsWhatStays (leaf ++ v ∷ []) v.stamp stays → octets stays ≤ 10821 → StaysOne shown v column 0
  above_one : (place next : PagePlace) (n : ℕ) → IsLower shown v.key place next → StaysOne shown v next n → StaysOne shown v place n
  takes_half : (place next : PagePlace) (n : ℕ) (lower : IsLower shown v.key place next) → length lower.children < 338 → BecomesTwo shown v next n → StaysOne shown v place n

-- the tree below a root needs this many pages: one more where the root becomes two, of a new root above it
pub data NeedsPages (shown : List (List ℕ)) (v : Version) : PagePlace → ℕ → Type 0 where
  same_root : (root : PagePlace) (n : ℕ) → StaysOne shown v root n → NeedsPages shown v root n
  new_root : (root : PagePlace) (n : ℕ) → BecomesTwo shown v root n → NeedsPages shown v root (suc n)

-- the root becomes two: a level more is needed
abbrev pub NeedsLevel : List (List ℕ) → Version → PagePlace → Type 0
NeedsLevel shown v root = (n : ℕ) × BecomesTwo shown v root n
