-- How often the disks of an archive failed in a call.
use Rattle.std.specs.Prelude.{◌≡◌, ◌⊎◌, ℕ}
use Rattle.disk_models.specs.declared.erase.EraseDisk.{Ghosts as EraseGhosts}
use Rattle.disk_models.specs.declared.once.OnceDisk.{Ghosts as OnceGhosts}
use Rattle.disk_archive.specs.declared.archive.Archive.{Archive}
use Rattle.disk_archive.specs.Archives.{IsHonest, erase_of, once_of, pen_in}
use Rattle.disk_archive.specs.Creations.{CountsOne}

-- A call reports a failure exactly if one of two devices failed in it, and then that one counted one failure, and the other none. These
-- are the counts of both before the call and after it; a count that is 2^64 - 1 stays.
pub record ReportsOne (one one' other other' : ℕ) (reported : Type 0) : Type 0 where
  pub quiet : ¬ reported → (one' ≡ one) × (other' ≡ other)
  pub counted : reported → CountsOne one one' other other'

-- If a call that only reads reported a failure, exactly one came: the erasable disk counted it, or the pen of the write-once disk, or a
-- look by which the call read blocks of this disk, and which ended with the call; it is a look at this disk, if both disks follow their
-- models and this is the archive's. If the call reported none, both disks counted none; what such a look counted isn't stated then.
pub record ReportsFailure {E O Pen Seen : Type 0} {erase : EraseGhosts E} {once : OnceGhosts O Pen Seen} (old new : Archive E O Pen Seen erase once) (disk : O) (reported : Type 0) : Type 0 where
  pub quiet : ¬ reported → (erase.fault_count (erase_of new) ≡ erase.fault_count (erase_of old)) × (once.pen_fault_count (pen_in new) ≡ once.pen_fault_count (pen_in old))
  pub counted : reported → CountsOne (erase.fault_count (erase_of old)) (erase.fault_count (erase_of new)) (once.pen_fault_count (pen_in old)) (once.pen_fault_count (pen_in new))
      ⊎ ((erase.fault_count (erase_of new) ≡ erase.fault_count (erase_of old)) × (once.pen_fault_count (pen_in new) ≡ once.pen_fault_count (pen_in old)) × ((seen : Seen) × (once.seen_fault_count seen ≡ 1) × (IsHonest old → disk ≡ once_of old → once.honest_seen disk seen)))
