-- What a held archive represents, whether it is open or waits to be opened again.
use Rattle.std.specs.Prelude.{◌≡◌, ◌<◌, ℕ, List, length, Option, Some, None, slice_get}
use Rattle.disk_models.specs.declared.erase.EraseDisk.{Ghosts as EraseGhosts}
use Rattle.disk_models.specs.declared.once.OnceDisk.{Ghosts as OnceGhosts}
use Rattle.once_store.specs.declared.reader.ShelfReader.{ShelfReader}
use Rattle.once_store.specs.Readers.{reader_disk}
use Rattle.route_meaning.specs.History.{History, IsHistory, settled}
use Rattle.board.specs.Past.{Past, count_of}
use Rattle.query_threads.specs.Looks.{AreTheSettled}
use Rattle.query_threads.specs.declared.refusal.Trouble.{Trouble}
use Rattle.query_threads.specs.declared.refusal.Trouble.TheVariants.{NeedsRecovery}
use Rattle.query_threads.specs.declared.refusal.Flush.{Flush}
use Rattle.disk_archive.specs.Archives.{erase_of, once_of, pen_in}
use Rattle.disk_archive.specs.Sites.{Site, IsNoted, Rests}
use Rattle.shared_archive.specs.Represented.{RepresentsPast, right_going, ring_pages}
use Rattle.shared_archive.specs.Reported.{Flushes, LookFails, Reports}
use Rattle.shared_archive.specs.declared.held.Disks.{Disks}
use Rattle.shared_archive.specs.declared.held.Shut.{Shut}
use Rattle.shared_archive.specs.declared.held.Held.{Held}
use Rattle.shared_archive.specs.declared.held.Held.TheVariants.{Open, Shut as Closed}

-- the write-once disk of the disks, or, while they are away, that of a reader
abbrev pub disk_at : {E O Pen Seen : Type 0} {once : OnceGhosts O Pen Seen} → ShelfReader O Pen Seen once → Option (Disks E O Pen Seen) → O
disk_at witness None = reader_disk witness
disk_at witness (Some disks) = disks.once.value

-- its write-once disk
abbrev pub disk_in : {E O Pen Seen : Type 0} {erase : EraseGhosts E} {once : OnceGhosts O Pen Seen} → Held E O Pen Seen erase once → O
disk_in (Open a) = once_of a
disk_in (Closed s) = disk_at s.witness s.disks

-- these are its disks
abbrev pub AreDisks : {E O Pen Seen : Type 0} {erase : EraseGhosts E} {once : OnceGhosts O Pen Seen} → Held E O Pen Seen erase once → Disks E O Pen Seen → Type 0
AreDisks (Open a) disks = (disks.erase ≡ erase_of a) × (disks.once.value ≡ once_of a) × (disks.pen ≡ pen_in a)
AreDisks (Closed s) disks = s.disks ≡ Some disks

-- how many pages each ring has
abbrev pub pages_in : {E O Pen Seen : Type 0} {erase : EraseGhosts E} {once : OnceGhosts O Pen Seen} → Held E O Pen Seen erase once → ℕ
pages_in (Open a) = ring_pages a
pages_in (Closed s) = s.ring

-- for each collector of the history, how many of its admissions there are
pub record AreCounts (counts : List ℕ) (h : History) : Type 0 where
  pub number : length counts ≡ length h.intakes
  pub each : (c : ℕ) → c < length counts → slice_get counts c ≡ Some (count_of h c)

-- what is remembered is what an archive with this history reports
pub record Remembers {E O Pen Seen : Type 0} {once : OnceGhosts O Pen Seen} (s : Shut E O Pen Seen once) (h : History) : Type 0 where
  pub right : IsHistory h
  pub number : length h.intakes ≡ s.collectors
  pub mark : s.settled ≡ settled h
  pub counts : AreCounts s.counts.items h

-- Disks that follow their models, of an archive with `ring` pages in each ring. Whatever they read as, or a crash may leave of them now,
-- represents a history that the past's begins, and exactly the past's blocks are settled.
pub record RestOn {E O Pen Seen : Type 0} (erase : EraseGhosts E) (once : OnceGhosts O Pen Seen) (disks : Disks E O Pen Seen) (ring : ℕ) (p : Past) : Type 0 where
  pub erasable : erase.honest disks.erase
  pub burnable : once.honest disks.once.value disks.pen
  pub site : Site
  pub count : site.blocks ≡ once.block_count disks.once.value
  pub noted : IsNoted site
  pub pages : site.settings.ring ≡ ring
  pub rests : Rests site (erase.model disks.erase) (once.model disks.pen) p.history
  pub blocks : AreTheSettled (once.block_count disks.once.value) (once.model disks.pen).settled p.blocks

-- with these disks, which are away, it represents the past
pub record Lacks {E O Pen Seen : Type 0} (erase : EraseGhosts E) (once : OnceGhosts O Pen Seen) (s : Shut E O Pen Seen once) (disks : Disks E O Pen Seen) (p : Past) : Type 0 where
  pub remembers : Remembers s p.history
  pub rest : RestOn erase once disks s.ring p

-- the same of one whose disks are there
pub record ShutPast {E O Pen Seen : Type 0} (erase : EraseGhosts E) (once : OnceGhosts O Pen Seen) (s : Shut E O Pen Seen once) (p : Past) : Type 0 where
  pub disks : Disks E O Pen Seen
  pub here : s.disks ≡ Some disks
  pub lacks : Lacks erase once s disks p

-- It represents the past. If it isn't open, what is found when it is opened represents one that this begins.
abbrev pub HeldRepresents : {E O Pen Seen : Type 0} {erase : EraseGhosts E} {once : OnceGhosts O Pen Seen} → Held E O Pen Seen erase once → Past → Type 0
HeldRepresents (Open a) p = RepresentsPast a p
HeldRepresents {erase = erase} {once = once} (Closed s) p = ShutPast erase once s p

-- a history that it holds is right
abbrev pub right_held : {E O Pen Seen : Type 0} {erase : EraseGhosts E} {once : OnceGhosts O Pen Seen} (held : Held E O Pen Seen erase once) (p : Past) → HeldRepresents held p → IsHistory p.history
right_held (Open a) p holds = right_going a p.history holds.goes_on
right_held (Closed s) p holds = holds.lacks.remembers.right

-- it isn't open, and with these disks it represents the past
abbrev pub LacksPast : {E O Pen Seen : Type 0} {erase : EraseGhosts E} {once : OnceGhosts O Pen Seen} → Held E O Pen Seen erase once → Disks E O Pen Seen → Past → Type 0
LacksPast (Open a) disks p = ⊥
LacksPast {erase = erase} {once = once} (Closed s) disks p = Lacks erase once s disks p

-- A call was refused for this trouble: if the archive is open, as `Reports` says, and else because it must be opened again.
abbrev pub HeldReports : {E O Pen Seen : Type 0} {erase : EraseGhosts E} {once : OnceGhosts O Pen Seen} → Held E O Pen Seen erase once → Trouble → Held E O Pen Seen erase once → Type 0
HeldReports (Open a) trouble (Open b) = Reports a trouble b
HeldReports (Open a) trouble (Closed t) = ⊥
HeldReports (Closed s) trouble b = trouble ≡ NeedsRecovery

-- the same of a look of a walk
abbrev pub HeldLookFails : {E O Pen Seen : Type 0} {erase : EraseGhosts E} {once : OnceGhosts O Pen Seen} → Held E O Pen Seen erase once → Trouble → Held E O Pen Seen erase once → Type 0
HeldLookFails (Open a) trouble (Open b) = LookFails a trouble b
HeldLookFails (Open a) trouble (Closed t) = ⊥
HeldLookFails (Closed s) trouble b = trouble ≡ NeedsRecovery

-- a step of flushing did this, which it does of an archive that is open alone
abbrev pub HeldFlushes : {E O Pen Seen : Type 0} {erase : EraseGhosts E} {once : OnceGhosts O Pen Seen} → Held E O Pen Seen erase once → Flush → Held E O Pen Seen erase once → Type 0
HeldFlushes (Open a) step (Open b) = Flushes a step b
HeldFlushes (Open a) step (Closed t) = ⊥
HeldFlushes (Closed s) step b = ⊥
