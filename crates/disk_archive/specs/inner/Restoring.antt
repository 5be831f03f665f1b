-- What is found on an erasable disk whose journal is opened.
use Rattle.std.specs.Prelude.{◌≡◌, ℕ, List, Result, Ok, Err}
use Rattle.disk_models.specs.declared.erase.EraseDisk.{Ghosts}
use Rattle.page_journal.specs.declared.error.OpenError.{OpenError as JournalError}
use Rattle.page_journal.specs.declared.error.OpenError.TheVariants as journals
use Rattle.page_journal.specs.declared.refused.Refused.{Refused as Handed}
use Rattle.page_journal.specs.Journal.{disk_of, home_pages, note_of}
use Rattle.buffer_pool.specs.Pool.{journal_of}
use Rattle.disk_archive.specs.declared.looks.Looks.{Looks}
use Rattle.disk_archive.specs.declared.open_error.OpenError.{OpenError}
use Rattle.disk_archive.specs.declared.open_error.OpenError.TheVariants as openings
use Rattle.disk_archive.specs.declared.restoring.Restored.{Restored}
use Rattle.disk_archive.specs.inner.Looking.{LooksAt}

-- a refusal of the journal, as it is reported for an archive
abbrev pub of_opening : JournalError → OpenError
of_opening journals.Fault = openings.Fault
of_opening journals.NotAJournal = openings.NotAJournal
of_opening (journals.BadNode page) = openings.BadSlot page
of_opening journals.OutOfMemory = openings.OutOfMemory

-- The disk named these home pages and this note, and these pages are looked at.
pub record Restores {E : Type 0} (device : Ghosts E) (looks : Looks E device) (count : ℕ) (reported : List ℕ) (pages : List (List ℕ)) : Type 0 where
  pub homes : home_pages (journal_of looks.pool) ≡ count
  pub note : note_of (journal_of looks.pool) ≡ reported
  pub looked : LooksAt device looks (record { note = reported; pages = pages; clock = (device.model (disk_of (journal_of looks.pool))).clock }) pages

-- the disk that is read, or the one that is returned
abbrev pub disk_restored : {E : Type 0} {device : Ghosts E} → Result (Restored E device) (Handed E OpenError) → E
disk_restored (Ok found) = disk_of (journal_of found.looks.pool)
disk_restored (Err refused) = refused.disk

-- the result without the pages and the disk
abbrev pub restored : {E : Type 0} {device : Ghosts E} → Result (Restored E device) (Handed E OpenError) → Result (Unit {0}) OpenError
restored (Ok found) = Ok tt
restored (Err refused) = Err refused.error
