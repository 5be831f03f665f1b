-- What is returned and left when an archive is opened.
use Rattle.std.specs.Prelude.{◌≡◌, ◌≤◌, ℕ, List}
use Rattle.disk_models.specs.Erase.{DiskState}
use Rattle.disk_models.specs.Once.{OnceState}
use Rattle.disk_models.specs.Left.{present}
use Rattle.page_journal.specs.Layout.{home_place}
use Rattle.page_journal.specs.Identity.{Names}
use Rattle.route_meaning.specs.History.{History}
use Rattle.archive_pages.specs.declared.settings.Settings.{Settings}
use Rattle.archive_pages.specs.Places.{AreSettings, tree_low}
use Rattle.disk_archive.specs.declared.open_error.OpenError.{OpenError}
use Rattle.disk_archive.specs.declared.open_error.OpenError.TheVariants as openings
use Rattle.disk_archive.specs.Notes.{note_octets}
use Rattle.disk_archive.specs.Sites.{Site, IsNoted, LeftRepresents}

-- what both disks read as represents the history, and the note gives the settings and as many blocks as the write-once disk has
pub record ReadsAs (site : Site) (blocks : ℕ) (e : DiskState) (o : OnceState) (h : History) : Type 0 where
  pub count : site.blocks ≡ blocks
  pub noted : IsNoted site
  pub represents : LeftRepresents site h (present e o)

-- The erasable disk, of this size, is an archive's: it names home pages for which it has room, and in its note settings within
-- their limits, with which head and rings lie on those pages, and as many blocks as the write-once disk has.
pub record NamesArchive (size : ℕ) (f : ℕ → ℕ) (blocks : ℕ) : Type 0 where
  pub homes : ℕ
  pub note : List ℕ
  pub settings : Settings
  pub names : Names homes note f
  pub room : home_place homes ≤ size
  pub within : AreSettings settings
  pub noted : note ≡ note_octets blocks settings
  pub rings : tree_low settings ≤ homes

-- there is no archive, or the device failed, or memory ran out
abbrev pub IsNoneFaultOrMemory : OpenError → Type 0
IsNoneFaultOrMemory openings.Fault = Unit {0}
IsNoneFaultOrMemory openings.OutOfMemory = Unit {0}
IsNoneFaultOrMemory openings.NotAJournal = Unit {0}
IsNoneFaultOrMemory (openings.BadSlot page) = ⊥
IsNoneFaultOrMemory (openings.BadNode page) = ⊥

-- the device failed, or memory ran out, and no other reason
abbrev pub IsFaultOrMemory : OpenError → Type 0
IsFaultOrMemory openings.Fault = Unit {0}
IsFaultOrMemory openings.OutOfMemory = Unit {0}
IsFaultOrMemory openings.NotAJournal = ⊥
IsFaultOrMemory (openings.BadSlot page) = ⊥
IsFaultOrMemory (openings.BadNode page) = ⊥
