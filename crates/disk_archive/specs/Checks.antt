-- What a check of an archive reads and finds.
use Rattle.std.specs.Prelude.{◌≡◌, ◌⊎◌, ℕ, List, [], ◌∷◌, Option}
use Rattle.disk_models.specs.declared.erase.EraseDisk.{Ghosts as EraseGhosts}
use Rattle.disk_models.specs.declared.once.OnceDisk.{Ghosts as OnceGhosts}
use Rattle.buffer_pool.specs.Pool.{Maps}
use Rattle.once_store.specs.Shelves.{next_of}
use Rattle.page_tx.specs.Tx.{pool_of}
use Rattle.version_model.specs.Pages.{all_keys}
use Rattle.tsb_tree.specs.Opened.{IsShownRoot}
use Rattle.tsb_walk.specs.declared.page_place.PagePlace.{PagePlace}
use Rattle.tsb_walk.specs.Shown.{keys_at}
use Rattle.tsb_check.specs.declared.in_use.InUse.{InUse}
use Rattle.tsb_check.specs.InUse.{AreInUse, IsUnusedUnder}
use Rattle.tsb_check.specs.Pages.{ReportsTree, IsBadUnder, IsUnknownUnder, IsDamagedUnder}
use Rattle.disk_archive.specs.declared.archive.Archive.{Archive}

-- these are its pages: what its journal and its cache represent
abbrev pub HasPages : {E O Pen Seen : Type 0} {erase : EraseGhosts E} {once : OnceGhosts O Pen Seen} → Archive E O Pen Seen erase once → List (List ℕ) → Type 0
HasPages {erase = erase} a pages = Maps erase (pool_of a.tx) pages

-- the page of its tree's root, according to its head
abbrev pub root_in : {E O Pen Seen : Type 0} {erase : EraseGhosts E} {once : OnceGhosts O Pen Seen} → Archive E O Pen Seen erase once → ℕ
root_in a = a.head.root

-- how many changes are applied, according to its head
abbrev pub applied_in : {E O Pen Seen : Type 0} {erase : EraseGhosts E} {once : OnceGhosts O Pen Seen} → Archive E O Pen Seen erase once → ℕ
applied_in a = a.head.applied

-- which pages and blocks its tree may use: its head, on page 0, has the first of each that were never used, and its shelf the first block
-- that was never burnt
abbrev pub in_use_of : {E O Pen Seen : Type 0} {erase : EraseGhosts E} {once : OnceGhosts O Pen Seen} → Archive E O Pen Seen erase once → InUse
in_use_of a = record { recorded_on = 0; pages = a.head.fresh; blocks = a.head.block; burnt = next_of a.shelf }

-- the place of a root in this page, whose keys are all keys
pub record IsRootPlace (root : ℕ) (place : PagePlace) : Type 0 where
  pub page : place.page ≡ root
  pub keys : keys_at place ≡ all_keys

-- Every page of the tree with this root, and every block of its past, represents what the one above requires, and a count of their versions
-- returns `n`; or some block to which they lead isn't known to be settled, of which a disk gives any octets. The pages, and the blocks that
-- they name, are in use.
pub record IsAllRead (pages : List (List ℕ)) (known : ℕ → Option (List ℕ)) (blocks root : ℕ) (in_use : InUse) (n : ℕ) : Type 0 where
  pub place : PagePlace
  pub top : IsRootPlace root place
  pub read : ReportsTree pages known blocks (place ∷ []) n ⊎ IsUnknownUnder pages known blocks (place ∷ [])
  pub used : AreInUse pages in_use (place ∷ [])

-- The page is damaged: it is that of the root, and no root; or the tree leads to it, and it isn't what it has to be; or it is at fault for a
-- page or a block that isn't in use, as the page of a column that names a block which was never burnt, and page 0 for the others; or it is
-- page 0, and the tree, whose pages and blocks all are what they have to be, has another number of versions than the head counts.
pub data IsBadPage (pages : List (List ℕ)) (known : ℕ → Option (List ℕ)) (blocks root applied : ℕ) (in_use : InUse) : ℕ → Type 0 where
  no_root : ((level : ℕ) → IsShownRoot pages root level → ⊥) → IsBadPage pages known blocks root applied in_use root
  bad_under : (place : PagePlace) → IsRootPlace root place → (page : ℕ) → IsBadUnder pages (place ∷ []) page → IsBadPage pages known blocks root applied in_use page
  unused_under : (place : PagePlace) → IsRootPlace root place → (page : ℕ) → IsUnusedUnder pages in_use (place ∷ []) page → IsBadPage pages known blocks root applied in_use page
  other_number : (n : ℕ) → IsAllRead pages known blocks root in_use n → (n ≡ applied → ⊥) → IsBadPage pages known blocks root applied in_use 0

-- the tree leads to this block, and it isn't what it has to be; or it leads to a block that isn't known to be settled
pub record IsBadBlock (pages : List (List ℕ)) (known : ℕ → Option (List ℕ)) (blocks root block : ℕ) : Type 0 where
  pub place : PagePlace
  pub top : IsRootPlace root place
  pub damage : IsDamagedUnder pages known blocks (place ∷ []) block ⊎ IsUnknownUnder pages known blocks (place ∷ [])
