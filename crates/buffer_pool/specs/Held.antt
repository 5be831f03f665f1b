-- Pages that are kept in memory under their numbers.
use Rattle.std.specs.Prelude.{◌≡◌, ℕ, List, Some, IfSome, Contains, slice_get}
use Rattle.std.specs.Ordering.{nat_cmp}
use Rattle.std.specs.BTreeMap.{BTreeMap, get}
use Rattle.lru.specs.LruCache.{LruCache}

-- each page that is kept is a committed one
abbrev pub AreCommitted : LruCache ℕ (List ℕ) → List (List ℕ) → Type 0
AreCommitted read pages = (n : ℕ) (page : List ℕ) → Contains read.entries (n, page) → slice_get pages n ≡ Some page

-- The pages that are kept are committed ones.
pub record CachesPages (changed : BTreeMap ℕ (List ℕ)) (read : LruCache ℕ (List ℕ)) (pages : List (List ℕ)) : Type 0 where
  pub committed : (n : ℕ) → IfSome (get nat_cmp changed n) (λ page. slice_get pages n ≡ Some page)
  pub cached : AreCommitted read pages
