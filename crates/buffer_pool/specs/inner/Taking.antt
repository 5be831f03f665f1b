-- What a page that is added leaves of the others.
use Rattle.std.specs.Prelude.{◌≡◌, ◌≢◌, ◌⊎◌, ℕ, List, Some, Contains}
use Rattle.std.specs.Ordering.{nat_cmp}
use Rattle.std.specs.BTreeMap.{BTreeMap, get}
use Rattle.lru.specs.LruCache.{LruCache}

-- the page under m is the one that was added, or was there under another number
abbrev pub Has : BTreeMap ℕ (List ℕ) → ℕ → List ℕ → ℕ → List ℕ → Type 0
Has old n page m p = ((m ≡ n) × (p ≡ page)) ⊎ ((m ≢ n) × (get nat_cmp old m ≡ Some p))

-- what is left was there, under another number
abbrev pub IsDropped : ℕ → LruCache ℕ (List ℕ) → LruCache ℕ (List ℕ) → Type 0
IsDropped n old new = (m : ℕ) (page : List ℕ) → Contains new.entries (m, page) → Contains old.entries (m, page) × (m ≢ n)
