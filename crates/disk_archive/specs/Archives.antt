-- The terms of contracts on an archive.
use Rattle.std.specs.Prelude.{◌≡◌, ◌⊎◌, ℕ, List, Bool, true}
use Rattle.disk_models.specs.declared.erase.EraseDisk.{Ghosts as EraseGhosts}
use Rattle.disk_models.specs.declared.once.OnceDisk.{Ghosts as OnceGhosts}
use Rattle.disk_models.specs.Erase.{DiskState}
use Rattle.disk_models.specs.Once.{OnceState, settled_in}
use Rattle.page_journal.specs.Journal.{disk_of as erase_disk, home_pages, needs_recovery, note_of}
use Rattle.buffer_pool.specs.Pool.{Maps, journal_of}
use Rattle.page_tx.specs.Tx.{pool_of}
use Rattle.once_store.specs.Shelves.{disk_of as once_disk, pen_of}
use Rattle.route_meaning.specs.History.{History, Begins}
use Rattle.archive_head.specs.Head.{EncodesHead, IsHead}
use Rattle.intake.specs.Ring.{page_at}
use Rattle.archive_pages.specs.declared.settings.Settings.{Settings}
use Rattle.archive_pages.specs.Represented.{HeadRepresents}
use Rattle.disk_archive.specs.Trees.{TreeLocated}
use Rattle.disk_archive.specs.Sites.{Site, IsNoted, Rests}
use Rattle.disk_archive.specs.Mirrors.{Mirrors}
use Rattle.disk_archive.specs.declared.archive.Archive.{Archive}

-- its erasable disk
abbrev pub erase_of : {E O Pen Seen : Type 0} {erase : EraseGhosts E} {once : OnceGhosts O Pen Seen} → Archive E O Pen Seen erase once → E
erase_of a = erase_disk (journal_of (pool_of a.tx))

-- its write-once disk
abbrev pub once_of : {E O Pen Seen : Type 0} {erase : EraseGhosts E} {once : OnceGhosts O Pen Seen} → Archive E O Pen Seen erase once → O
once_of a = once_disk a.shelf

-- that disk's pen
abbrev pub pen_in : {E O Pen Seen : Type 0} {erase : EraseGhosts E} {once : OnceGhosts O Pen Seen} → Archive E O Pen Seen erase once → Pen
pen_in a = pen_of a.shelf

-- what the erasable disk is
abbrev pub erase_state : {E O Pen Seen : Type 0} {erase : EraseGhosts E} {once : OnceGhosts O Pen Seen} → Archive E O Pen Seen erase once → DiskState
erase_state {erase = erase} a = erase.model (erase_of a)

-- what the write-once disk is
abbrev pub once_state : {E O Pen Seen : Type 0} {erase : EraseGhosts E} {once : OnceGhosts O Pen Seen} → Archive E O Pen Seen erase once → OnceState
once_state {once = once} a = once.model (pen_in a)

-- what it was made with
abbrev pub settings_of : {E O Pen Seen : Type 0} {erase : EraseGhosts E} {once : OnceGhosts O Pen Seen} → Archive E O Pen Seen erase once → Settings
settings_of a = a.settings

-- a write or a sync failed: it must be opened again
abbrev pub is_down : {E O Pen Seen : Type 0} {erase : EraseGhosts E} {once : OnceGhosts O Pen Seen} → Archive E O Pen Seen erase once → Bool
is_down a = needs_recovery (journal_of (pool_of a.tx))

-- what it was made with, and what its disks are
abbrev pub site_of : {E O Pen Seen : Type 0} {erase : EraseGhosts E} {once : OnceGhosts O Pen Seen} → Archive E O Pen Seen erase once → Site
site_of {once = once} a = record { settings = a.settings; homes = home_pages (journal_of (pool_of a.tx)); note = note_of (journal_of (pool_of a.tx)); blocks = once.block_count (once_of a) }

-- both of its disks follow their models
abbrev pub IsHonest : {E O Pen Seen : Type 0} {erase : EraseGhosts E} {once : OnceGhosts O Pen Seen} → Archive E O Pen Seen erase once → Type 0
IsHonest {erase = erase} {once = once} a = erase.honest (erase_of a) × once.honest (once_of a) (pen_in a)

-- with the head in memory and all that is settled these pages represent the history
abbrev pub HeadRepresentsOn : {E O Pen Seen : Type 0} {erase : EraseGhosts E} {once : OnceGhosts O Pen Seen} → Archive E O Pen Seen erase once → List (List ℕ) → History → Type 0
HeadRepresentsOn {once = once} a pages h = HeadRepresents (TreeLocated (once.block_count (once_of a))) a.settings (settled_in (once_state a)) a.head pages h

-- A usable archive represents the history on its disks, whose note has its settings, and has in memory what answers need.
pub record Represents {E O Pen Seen : Type 0} {erase : EraseGhosts E} {once : OnceGhosts O Pen Seen} (a : Archive E O Pen Seen erase once) (h : History) : Type 0 where
  pub honest : IsHonest a
  pub noted : IsNoted (site_of a)
  pub pages : List (List ℕ)
  pub maps : Maps erase (pool_of a.tx) pages
  pub valid : IsHead a.head
  pub first : EncodesHead a.head (page_at pages 0)
  pub head_represents : HeadRepresentsOn a pages h
  pub mirrors : Mirrors a.sequencer h

-- The archive must be opened again. It has in memory what answers need, and whatever its disks read as, or a crash may leave of them
-- now, represents a history that this one begins.
pub record Waits {E O Pen Seen : Type 0} {erase : EraseGhosts E} {once : OnceGhosts O Pen Seen} (a : Archive E O Pen Seen erase once) (h : History) : Type 0 where
  pub honest : IsHonest a
  pub noted : IsNoted (site_of a)
  pub unusable : is_down a ≡ true
  pub pages : List (List ℕ)
  pub reported : HeadRepresentsOn a pages h
  pub mirrors : Mirrors a.sequencer h
  pub rests : Rests (site_of a) (erase_state a) (once_state a) h

-- it represents the history, or reports it until it is opened again
abbrev pub GoesOn : {E O Pen Seen : Type 0} {erase : EraseGhosts E} {once : OnceGhosts O Pen Seen} → Archive E O Pen Seen erase once → History → Type 0
GoesOn a h = Represents a h ⊎ Waits a h

-- The archive represents the history. If a disk doesn't follow its model, nothing is claimed.
abbrev pub RepresentsIfHonest : {E O Pen Seen : Type 0} {erase : EraseGhosts E} {once : OnceGhosts O Pen Seen} → Archive E O Pen Seen erase once → History → Type 0
RepresentsIfHonest a h = IsHonest a → GoesOn a h

-- What stays true of a history for good, whatever call comes and fails: the archive goes on with one that it begins.
abbrev pub ContinuesFrom : {E O Pen Seen : Type 0} {erase : EraseGhosts E} {once : OnceGhosts O Pen Seen} → Archive E O Pen Seen erase once → History → Type 0
ContinuesFrom a h = (g : History) × Begins h g × GoesOn a g
