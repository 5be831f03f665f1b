-- The terms of contracts on a pool.
use Rattle.std.specs.Prelude.{◌⊎◌, ℕ, List, Option, IsSome, length, nat_eq, slice_get}
use Rattle.std.specs.Ordering.{nat_cmp}
use Rattle.std.specs.BTreeMap.{get}
use Rattle.std.specs.Map.{lookup}
use Rattle.disk_models.specs.declared.erase.EraseDisk.{Ghosts}
use Rattle.page_journal.specs.declared.journal.Journal.{Journal}
use Rattle.disk_models.specs.Erase.{Stays}
use Rattle.page_journal.specs.Calls.{SameButDisk}
use Rattle.page_journal.specs.Journal.{Keeps, disk_of, unhomed_pages}
use Rattle.buffer_pool.specs.Held.{CachesPages}
use Rattle.buffer_pool.specs.declared.pool.Pool.{Pool}

-- its journal
abbrev pub journal_of : {D : Type 0} {device : Ghosts D} → Pool D device → Journal D device
journal_of pool = pool.journal

-- the page that was dirty longest, if one is
abbrev pub oldest_dirty : {D : Type 0} {device : Ghosts D} → Pool D device → Option ℕ
oldest_dirty pool = slice_get (unhomed_pages pool.journal) 0

-- how many pages are in its cache: those that were read or written home
abbrev pub clean_pages : {D : Type 0} {device : Ghosts D} → Pool D device → ℕ
clean_pages pool = length pool.cached.entries

-- and how many there may be
abbrev pub most_clean : {D : Type 0} {device : Ghosts D} → Pool D device → ℕ
most_clean pool = pool.cached.cap

-- a page of this number was committed, and waits in memory to be written home
abbrev pub IsWaiting : {D : Type 0} {device : Ghosts D} → Pool D device → ℕ → Type 0
IsWaiting pool n = IsSome (get nat_cmp pool.committed n)

-- a page of this number is in memory
abbrev pub IsResident : {D : Type 0} {device : Ghosts D} → Pool D device → ℕ → Type 0
IsResident pool n = IsWaiting pool n ⊎ IsSome (lookup (nat_eq n) pool.cached.entries)

-- The pool represents these pages: its journal does, and each page in memory is one of them.
pub record Maps {D : Type 0} (device : Ghosts D) (pool : Pool D device) (pages : List (List ℕ)) : Type 0 where
  pub keeps : Keeps device pool.journal pages
  pub held : CachesPages pool.committed pool.cached pages

-- Nothing but its disk has changed, and that by a read at most: nothing was written.
pub record WasOnlyRead {D : Type 0} (device : Ghosts D) (old new : Journal D device) : Type 0 where
  pub same : SameButDisk device old new
  pub stays : device.honest (disk_of old) → Stays (device.model (disk_of old)) (device.model (disk_of new))
