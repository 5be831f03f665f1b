-- What the archive on any two disks represents, for feeds and questions.
use Rattle.std.specs.Prelude.{ℕ, Option, IfSome, ◌*◌, max, min}
use Rattle.std.proofs.Common.{⊎_elim}
use Rattle.disk_models.specs.declared.erase.EraseDisk.{Ghosts as EraseGhosts}
use Rattle.disk_models.specs.declared.once.OnceDisk.{Ghosts as OnceGhosts}
use Rattle.once_store.specs.declared.reader.ShelfReader.{ShelfReader}
use Rattle.route_meaning.specs.History.{History, IsHistory}
use Rattle.archive_pages.specs.declared.settings.Settings.{Settings}
use Rattle.disk_archive.specs.declared.archive.Archive.{Archive}
use Rattle.disk_archive.specs.Archives.{GoesOn, IsHonest, settings_of, site_of}
use Rattle.disk_archive.specs.Reading.{ReadsFrom}
use Rattle.disk_archive.specs.Sites.{Site}
use Rattle.disk_calls.specs.declared.archive.DiskArchive.{DiskArchive}

-- the archive in it
abbrev pub archive_in : {E O R Pen Seen : Type 0} {erase : EraseGhosts E} {once : OnceGhosts O Pen Seen} → DiskArchive E O R Pen Seen erase once → Archive E O Pen Seen erase once
archive_in a = a.archive

-- what it was made with, and what its disks are
abbrev pub site_in : {E O R Pen Seen : Type 0} {erase : EraseGhosts E} {once : OnceGhosts O Pen Seen} → DiskArchive E O R Pen Seen erase once → Site
site_in a = site_of a.archive

-- both of its disks follow their models
abbrev pub FollowModels : {E O R Pen Seen : Type 0} {erase : EraseGhosts E} {once : OnceGhosts O Pen Seen} → DiskArchive E O R Pen Seen erase once → Type 0
FollowModels a = IsHonest a.archive

-- the most octets of a batch: 262,144, or those of a ring if these are fewer; a ring of nine pages or more has room for each admission
abbrev pub limit_for : Settings → ℕ
limit_for s = max (min 262144 (16384 * s.ring)) 131076

-- the same of an archive that was made with these settings
abbrev pub limit_of : {E O R Pen Seen : Type 0} {erase : EraseGhosts E} {once : OnceGhosts O Pen Seen} → DiskArchive E O R Pen Seen erase once → ℕ
limit_of a = limit_for (settings_of a.archive)

-- a reader, if there is one, is of the archive's blocks, and keeps what is settled
abbrev pub KeepsFrom : {E O Pen Seen : Type 0} {erase : EraseGhosts E} {once : OnceGhosts O Pen Seen} → Archive E O Pen Seen erase once → Option (ShelfReader O Pen Seen once) → Type 0
KeepsFrom a reader = IfSome reader (λ r. ReadsFrom a r)

-- the archive goes on with the history, and the blocks that are kept are its own
pub record GoesOnWith {E O R Pen Seen : Type 0} {erase : EraseGhosts E} {once : OnceGhosts O Pen Seen} (a : DiskArchive E O R Pen Seen erase once) (h : History) : Type 0 where
  pub goes_on : GoesOn a.archive h
  pub reads : KeepsFrom a.archive a.reader

-- a history that is represented is right
abbrev pub right_of : {E O R Pen Seen : Type 0} {erase : EraseGhosts E} {once : OnceGhosts O Pen Seen} (a : DiskArchive E O R Pen Seen erase once) (h : History) → GoesOnWith a h → IsHistory h
right_of a h represented = ⊎_elim (λ k. k.head_represents.right) (λ waits. waits.reported.right) represented.goes_on
