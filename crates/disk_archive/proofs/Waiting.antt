-- What waits in the rings of an archive.
use Rattle.std.proofs.Common.{ℕ}
use Rattle.disk_models.specs.declared.erase.EraseDisk.{Ghosts as EraseGhosts}
use Rattle.disk_models.specs.declared.once.OnceDisk.{Ghosts as OnceGhosts}
use Rattle.route_meaning.specs.History.{History}
use Rattle.disk_archive.specs.declared.archive.Archive.{Archive}
use Rattle.disk_archive.specs.Archives.{Represents, once_of, once_state}
use Rattle.disk_archive.specs.Rings.{AreRings}
use Rattle.disk_archive.proofs.Recalled.{own_of}

-- each collector's ring holds what waits of its history
pub rings_read : {E O Pen Seen : Type 0} {erase : EraseGhosts E} {once : OnceGhosts O Pen Seen} (a : Archive E O Pen Seen erase once) (h : History) (k : Represents a h) → AreRings k.pages a.settings a.head
rings_read {once = once} a h k collector lane has =
    let own = own_of (once.block_count (once_of a)) a.settings (once_state a) a.head k.pages h collector lane k.head_represents has in
    record { place = own.represents_all.place; waits = own.represents_all.holds.stored; holds = own.represents_all.holds.represents }
