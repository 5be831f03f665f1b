-- Pages of a pool that are only looked at.
use Rattle.std.specs.Prelude.{◌≡◌, ℕ, List}
use Rattle.disk_models.specs.declared.erase.EraseDisk.{Ghosts}
use Rattle.page_journal.specs.Journal.{disk_of, note_of}
use Rattle.buffer_pool.specs.Pool.{Maps, journal_of}
use Rattle.page_tx.specs.Start.{Start}
use Rattle.disk_archive.specs.declared.looks.Looks.{Looks}

-- The pool maps the pages of the start, which are those that are shown.
pub record LooksAt {E : Type 0} (device : Ghosts E) (looks : Looks E device) (start : Start) (shown : List (List ℕ)) : Type 0 where
  pub honest : device.honest (disk_of (journal_of looks.pool))
  pub maps : Maps device looks.pool start.pages
  pub noted : note_of (journal_of looks.pool) ≡ start.note
  pub same : shown ≡ start.pages
