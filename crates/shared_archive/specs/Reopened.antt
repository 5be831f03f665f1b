-- What is known of a held archive that isn't opened again.
use Rattle.std.specs.Prelude.{◌≡◌, ◌⊎◌, ⊤, ℕ, Option, Some, None, Result, Ok, Err, false}
use Rattle.disk_models.specs.declared.erase.EraseDisk.{Ghosts as EraseGhosts}
use Rattle.disk_models.specs.declared.once.OnceDisk.{Ghosts as OnceGhosts}
use Rattle.query_threads.specs.declared.refusal.Trouble.{Trouble}
use Rattle.query_threads.specs.declared.refusal.Trouble.TheVariants.{Fault, NeedsRecovery, DamagedPage, DamagedBlock, CounterFull, TooHigh, PagesFull, OnceFull, OutOfMemory}
use Rattle.board.specs.Past.{Past}
use Rattle.disk_archive.specs.Archives.{erase_of, is_down, pen_in}
use Rattle.shared_archive.specs.Held.{HeldRepresents}
use Rattle.shared_archive.specs.Reported.{Failed}
use Rattle.shared_archive.specs.declared.held.Disks.{Disks}
use Rattle.shared_archive.specs.declared.held.Held.{Held}
use Rattle.shared_archive.specs.declared.held.Held.TheVariants.{Open, Shut as Closed}

-- how often the erasable disk of these disks has failed
abbrev pub erase_faults_at : {E O Pen Seen : Type 0} → EraseGhosts E → Option (Disks E O Pen Seen) → ℕ
erase_faults_at erase None = 0
erase_faults_at erase (Some disks) = erase.fault_count disks.erase

-- and the pen of their write-once disk
abbrev pub pen_faults_at : {E O Pen Seen : Type 0} → OnceGhosts O Pen Seen → Option (Disks E O Pen Seen) → ℕ
pen_faults_at once None = 0
pen_faults_at once (Some disks) = once.pen_fault_count disks.pen

-- how often the erasable disk of a held archive has failed
abbrev pub erase_faults : {E O Pen Seen : Type 0} {erase : EraseGhosts E} {once : OnceGhosts O Pen Seen} → Held E O Pen Seen erase once → ℕ
erase_faults {erase = erase} (Open a) = erase.fault_count (erase_of a)
erase_faults {erase = erase} (Closed s) = erase_faults_at erase s.disks

-- and the pen of its write-once disk
abbrev pub pen_faults : {E O Pen Seen : Type 0} {erase : EraseGhosts E} {once : OnceGhosts O Pen Seen} → Held E O Pen Seen erase once → ℕ
pen_faults {once = once} (Open a) = once.pen_fault_count (pen_in a)
pen_faults {once = once} (Closed s) = pen_faults_at once s.disks

-- its disks are away, while it is being opened
abbrev pub IsAway : {E O Pen Seen : Type 0} {erase : EraseGhosts E} {once : OnceGhosts O Pen Seen} → Held E O Pen Seen erase once → Type 0
IsAway (Open a) = ⊥
IsAway (Closed s) = s.disks ≡ None

-- neither of two disks counted a failure
abbrev pub NoneFailed : {E O Pen Seen : Type 0} → EraseGhosts E → OnceGhosts O Pen Seen → Disks E O Pen Seen → Disks E O Pen Seen → Type 0
NoneFailed erase once old new = (erase.fault_count new.erase ≡ erase.fault_count old.erase) × (once.pen_fault_count new.pen ≡ once.pen_fault_count old.pen)

-- one of two disks counted a failure
abbrev pub OneFailed : {E O Pen Seen : Type 0} → EraseGhosts E → OnceGhosts O Pen Seen → Disks E O Pen Seen → Disks E O Pen Seen → Type 0
OneFailed erase once old new = Failed (erase.fault_count old.erase) (erase.fault_count new.erase) ⊎ Failed (once.pen_fault_count old.pen) (once.pen_fault_count new.pen)

-- An opening failed with this trouble, by how often the disks failed before it and after it: one of them counted a failure; or a page is
-- damaged, or there was no memory. It fails as one that must be opened again only if there are no disks.
abbrev pub Fails : Type 0 → (erase erase' pen pen' : ℕ) → Trouble → Type 0
Fails away erase erase' pen pen' Fault = Failed erase erase' ⊎ Failed pen pen'
Fails away erase erase' pen pen' NeedsRecovery = away
Fails away erase erase' pen pen' (DamagedPage page) = ⊤
Fails away erase erase' pen pen' (DamagedBlock block) = ⊥
Fails away erase erase' pen pen' CounterFull = ⊥
Fails away erase erase' pen pen' TooHigh = ⊥
Fails away erase erase' pen pen' PagesFull = ⊥
Fails away erase erase' pen pen' OnceFull = ⊥
Fails away erase erase' pen pen' OutOfMemory = ⊤

-- it is open
abbrev pub IsOpen : {E O Pen Seen : Type 0} {erase : EraseGhosts E} {once : OnceGhosts O Pen Seen} → Held E O Pen Seen erase once → Type 0
IsOpen (Open a) = ⊤
IsOpen (Closed s) = ⊥

-- it is open, and needn't be opened again
abbrev pub IsUp : {E O Pen Seen : Type 0} {erase : EraseGhosts E} {once : OnceGhosts O Pen Seen} → Held E O Pen Seen erase once → Type 0
IsUp (Open a) = is_down a ≡ false
IsUp (Closed s) = ⊥

-- An opening of an archive returned this. After a success it is open, and if it represented a past it needn't be opened again.
abbrev pub Reopens : {E O Pen Seen : Type 0} {erase : EraseGhosts E} {once : OnceGhosts O Pen Seen} → Held E O Pen Seen erase once → Result (Unit {0}) Trouble → Held E O Pen Seen erase once → Type 0
Reopens a (Ok done) b = IsOpen b × ((p : Past) → HeldRepresents a p → IsUp b)
Reopens a (Err trouble) b = Fails (IsAway a) (erase_faults a) (erase_faults b) (pen_faults a) (pen_faults b) trouble
