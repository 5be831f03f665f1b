-- How many collectors an archive has.
use Rattle.std.proofs.Common.{◌≡◌, length, inl, inr}
use Rattle.disk_models.specs.declared.erase.EraseDisk.{Ghosts as EraseGhosts}
use Rattle.disk_models.specs.declared.once.OnceDisk.{Ghosts as OnceGhosts}
use Rattle.route_meaning.specs.History.{History}
use Rattle.disk_archive.specs.declared.archive.Archive.{Archive}
use Rattle.disk_archive.specs.Archives.{GoesOn, settings_of}

-- an archive goes on with histories of as many collectors as it was made for
pub number_of : {E O Pen Seen : Type 0} {erase : EraseGhosts E} {once : OnceGhosts O Pen Seen} (a : Archive E O Pen Seen erase once) (h : History) → GoesOn a h → length h.intakes ≡ (settings_of a).collectors
number_of a h (inl represents) = represents.head_represents.number
number_of a h (inr waits) = waits.reported.number
