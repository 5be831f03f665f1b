-- What creating and opening an archive leave.
use Rattle.std.specs.Prelude.{Result, Ok, Err}
use Rattle.disk_models.specs.declared.erase.EraseDisk.{Ghosts as EraseGhosts}
use Rattle.disk_models.specs.declared.once.OnceDisk.{Ghosts as OnceGhosts}
use Rattle.disk_archive.specs.declared.archive.Archive.{Archive}
use Rattle.disk_archive.specs.declared.refused.Refused.{Refused}
use Rattle.disk_archive.specs.Archives.{erase_of, once_of, pen_in}

-- the erasable disk afterwards: the archive's, or the one that is returned
abbrev pub erase_after : {E O X Pen Seen : Type 0} {erase : EraseGhosts E} {once : OnceGhosts O Pen Seen} → Result (Archive E O Pen Seen erase once) (Refused E O X Pen Seen) → E
erase_after (Ok archive) = erase_of archive
erase_after (Err refused) = refused.erase

-- the write-once disk
abbrev pub once_after : {E O X Pen Seen : Type 0} {erase : EraseGhosts E} {once : OnceGhosts O Pen Seen} → Result (Archive E O Pen Seen erase once) (Refused E O X Pen Seen) → O
once_after (Ok archive) = once_of archive
once_after (Err refused) = refused.once.value

-- and its pen
abbrev pub pen_after : {E O X Pen Seen : Type 0} {erase : EraseGhosts E} {once : OnceGhosts O Pen Seen} → Result (Archive E O Pen Seen erase once) (Refused E O X Pen Seen) → Pen
pen_after (Ok archive) = pen_in archive
pen_after (Err refused) = refused.pen

-- the result without the disks and the archive
abbrev pub outcome : {E O X Pen Seen : Type 0} {erase : EraseGhosts E} {once : OnceGhosts O Pen Seen} → Result (Archive E O Pen Seen erase once) (Refused E O X Pen Seen) → Result (Unit {0}) X
outcome (Ok archive) = Ok tt
outcome (Err refused) = Err refused.error
