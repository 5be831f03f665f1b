-- How far a count of a tree has come.
use Rattle.std.specs.Prelude.{◌≡◌, ℕ, ◌+◌, ◌^◌, ◌<◌, ◌≤◌, ◌⊎◌, List, [], ◌∷◌, ◌++◌, Option}
use Rattle.tsb_walk.specs.declared.page_place.PagePlace.{PagePlace}
use Rattle.tsb_walk.specs.Shown.{RepresentsNode, keys_at}
use Rattle.tsb_walk.specs.PageWays.{IsNoKeyNode}
use Rattle.version_model.specs.declared.child.Child.{Child}
use Rattle.version_model.specs.Pages.{KeyNode}
use Rattle.tsb_check.specs.declared.in_use.InUse.{InUse}
use Rattle.tsb_check.specs.Counted.{reported}
use Rattle.tsb_check.specs.Pages.{AreCountedUnder, places_under}
use Rattle.tsb_check.specs.inner.Columns.{ReportsColumn, IsBadColumn, IsUnusedColumn, IsUsedColumn, IsUnknownIn, IsDamagedIn}

-- What was counted so far, and what the places that are left count, is a count of all.
pub record CountsOnUnder (shown : List (List ℕ)) (known : ℕ → Option (List ℕ)) (count : ℕ) (places left : List PagePlace) (n : ℕ) : Type 0 where
  pub total : ℕ
  pub is : n ≡ reported total
  pub on : (m : ℕ) → AreCountedUnder shown known count left m → AreCountedUnder shown known count places (total + m)

-- from places that are left to others a page is taken: a column leaves no more, a key node the places of its children
abbrev pub AreLeftBy : List (List ℕ) → PagePlace → List PagePlace → List PagePlace → Type 0
AreLeftBy shown place left left' = ((place.level ≡ 1) × (left' ≡ left))
    ⊎ ((children : List Child) × RepresentsNode shown place.page (KeyNode place.level (keys_at place) children) × (left' ≡ left ++ places_under place children))

-- n versions are counted of a column; none of a key node, whose children's places are left
abbrev pub IsPlaceTaken : List (List ℕ) → (ℕ → Option (List ℕ)) → ℕ → PagePlace → List PagePlace → List PagePlace → ℕ → Type 0
IsPlaceTaken shown known count place left left' n = ((place.level ≡ 1) × ReportsColumn shown known count place n × (left' ≡ left))
    ⊎ ((children : List Child) × RepresentsNode shown place.page (KeyNode place.level (keys_at place) children) × (left' ≡ left ++ places_under place children) × (n ≡ 0))

-- a page of a column isn't what it is to be, or that of a key node
abbrev pub IsPlaceBad : List (List ℕ) → PagePlace → ℕ → Type 0
IsPlaceBad shown place page = ((place.level ≡ 1) × IsBadColumn shown place page) ⊎ ((place.level ≡ 1 → ⊥) × (place.page ≡ page) × IsNoKeyNode shown place)

-- a column is in use with all that it uses, or the page of a key node is
abbrev pub IsTakenUsed : List (List ℕ) → InUse → PagePlace → Type 0
IsTakenUsed shown in_use place = ((place.level ≡ 1) × IsUsedColumn shown in_use place) ⊎ ((place.level ≡ 1 → ⊥) × (place.page < in_use.pages))

-- a column, or something that it uses, isn't in use, or the page of a key node isn't, for which this page is at fault
abbrev pub IsTakenUnused : List (List ℕ) → InUse → PagePlace → ℕ → Type 0
IsTakenUnused shown in_use place page = ((place.level ≡ 1) × IsUnusedColumn shown in_use place page) ⊎ ((in_use.recorded_on ≡ page) × (in_use.pages ≤ place.page))

-- a block of a column's past isn't what it is to be
abbrev pub IsPlaceDamaged : List (List ℕ) → (ℕ → Option (List ℕ)) → ℕ → PagePlace → ℕ → Type 0
IsPlaceDamaged shown known count place block = (place.level ≡ 1) × IsDamagedIn shown known count place block

-- a block of a column's past isn't known
abbrev pub IsPlaceUnknown : List (List ℕ) → (ℕ → Option (List ℕ)) → ℕ → PagePlace → Type 0
IsPlaceUnknown shown known count place = (place.level ≡ 1) × IsUnknownIn shown known count place

-- A number that falls when a place gives way to those of at most 338 children.
abbrev pub page_weight : List PagePlace → ℕ
page_weight [] = 0
page_weight (place ∷ places) = 339 ^ place.level + page_weight places
