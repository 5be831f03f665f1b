-- Pages of a pool that are only looked at, on a disk of which something was unsynced before it was opened.
use Rattle.std.specs.Prelude.{◌≡◌, ◌≤◌, ◌⊎◌, ℕ, List, length}
use Rattle.disk_models.specs.declared.erase.EraseDisk.{Ghosts}
use Rattle.disk_models.specs.Erase.{DiskState}
use Rattle.page_journal.specs.Journal.{disk_of, home_pages}
use Rattle.page_journal.specs.Recovers.{Recovers}
use Rattle.buffer_pool.specs.Pool.{journal_of}
use Rattle.page_tx.specs.Start.{Start}
use Rattle.disk_archive.specs.declared.looks.Looks.{Looks}
use Rattle.disk_archive.specs.inner.Looking.{LooksAt}
use Rattle.disk_archive.specs.inner.Looked.{looks_count}

-- What a crash leaves since that clock, which isn't above the disk's, could be left before, or represents these pages.
pub record CrashRepresentsOr (e : DiskState) (clock : ℕ) (left : (ℕ → ℕ) → Type 0) (homes : ℕ) (note : List ℕ) (pages : List (List ℕ)) : Type 0 where
  pub later : clock ≤ e.clock
  pub each : (c : ℕ → ℕ) → e.left_since clock c → left c ⊎ Recovers homes note c pages

-- The pages are looked at, and what a crash leaves since an earlier clock could be left then, or represents the pages of the start too.
pub record GuardedAt {E : Type 0} (device : Ghosts E) (clock : ℕ) (left : (ℕ → ℕ) → Type 0) (looks : Looks E device) (start : Start) (shown : List (List ℕ)) : Type 0 where
  pub looked : LooksAt device looks start shown
  pub means : CrashRepresentsOr (device.model (disk_of (journal_of looks.pool))) clock left (home_pages (journal_of looks.pool)) start.note start.pages

pub guarded_count : {E : Type 0} {device : Ghosts E} (clock : ℕ) (left : (ℕ → ℕ) → Type 0) (looks : Looks E device) (start : Start) (shown : List (List ℕ)) → GuardedAt device clock left looks start shown → length shown ≡ home_pages (journal_of looks.pool)
guarded_count clock left looks start shown s = looks_count looks start shown s.looked
