-- What a crash inside a call of an archive leaves.
use Rattle.std.specs.Prelude.{◌≤◌}
use Rattle.disk_models.specs.declared.erase.EraseDisk.{Ghosts as EraseGhosts}
use Rattle.disk_models.specs.declared.once.OnceDisk.{Ghosts as OnceGhosts}
use Rattle.disk_models.specs.Left.{Left, CrashPair}
use Rattle.route_meaning.specs.History.{History}
use Rattle.disk_archive.specs.declared.archive.Archive.{Archive}
use Rattle.disk_archive.specs.Sites.{LeftFrom}
use Rattle.disk_archive.specs.Archives.{erase_state, once_state, site_of, ContinuesFrom}

-- Whatever a crash inside a call left has P, if the archive was `old` before the call and is `new` after it. It is assumed, and not
-- stated here, that the call burns all that it burns before its first erasable write: the write-once disk was then as it is after the
-- call. The erasable disk's clock didn't fall: what a crash leaves after the call is left inside it too.
pub record Crashes {E O Pen Seen : Type 0} {erase : EraseGhosts E} {once : OnceGhosts O Pen Seen} (old new : Archive E O Pen Seen erase once) (P : Left → Type 0) : Type 0 where
  pub later : (erase_state old).clock ≤ (erase_state new).clock
  pub each : (left : Left) → CrashPair (erase_state old) (erase_state new) (once_state old) (once_state new) (once_state new) left → P left

-- What continued from a history before a call does so after it, and after each crash inside the call.
pub record Lasts {E O Pen Seen : Type 0} {erase : EraseGhosts E} {once : OnceGhosts O Pen Seen} (old new : Archive E O Pen Seen erase once) (h : History) : Type 0 where
  pub continues : ContinuesFrom new h
  pub inside : Crashes old new (LeftFrom (site_of old) h)
