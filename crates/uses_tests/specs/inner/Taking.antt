-- How one archive leads to the next.
use Rattle.std.specs.Prelude.{◌≡◌, ◌⊎◌, true, List, []}
use Rattle.std.specs.List.{AllByRecursion}
use Rattle.disk_models.specs.declared.erase.EraseDisk.{Ghosts as EraseGhosts}
use Rattle.disk_models.specs.declared.once.OnceDisk.{Ghosts as OnceGhosts}
use Rattle.disk_models.specs.Left.{IsFound, Left, LeftNow}
use Rattle.route_meaning.specs.History.{History}
use Rattle.archive_pages.specs.declared.settings.Settings.{Settings}
use Rattle.disk_archive.specs.declared.archive.Archive.{Archive}
use Rattle.disk_archive.specs.Archives.{Represents, is_down}
use Rattle.archive_uses.specs.Use.{IsUse, Use}
use Rattle.archive_uses.specs.Uses.{Scene, Uses}
use Rattle.archive_uses.specs.Uses.Stage.{gone, off, on}
use Rattle.archive_uses.specs.Lives.{Lives}
use Rattle.uses_tests.specs.declared.acts.Act.{Act}
use Rattle.uses_tests.specs.declared.acts.Birth.{Birth}
use Rattle.uses_tests.specs.declared.acts.Returned.{Returned}
use Rattle.uses_tests.specs.declared.acts.Turn.{Turn}
use Rattle.uses_tests.specs.Turns.{AreFirst, AreOpenings, AreTurns, AreUses}

-- an archive, and no question in hand
abbrev pub alone : {E O Pen Seen : Type 0} {erase : EraseGhosts E} {once : OnceGhosts O Pen Seen} → Archive E O Pen Seen erase once → Scene E O Pen Seen erase once
alone a = record { stage = on a; hand = [] }

-- both disks, and no question in hand
abbrev pub apart : {E O Pen Seen : Type 0} (erase : EraseGhosts E) (once : OnceGhosts O Pen Seen) → E → O → Pen → Scene E O Pen Seen erase once
apart erase once e o pen = record { stage = off e o pen; hand = [] }

-- what a crash left of both disks, of which the write-once one was this
abbrev pub fallen : {E O Pen Seen : Type 0} (erase : EraseGhosts E) (once : OnceGhosts O Pen Seen) → O → Left → Scene E O Pen Seen erase once
fallen erase once o left = record { stage = gone (once.block_count o) left; hand = [] }

-- an archive of these settings came to be so
pub record IsBorn {E O Pen Seen : Type 0} {erase : EraseGhosts E} {once : OnceGhosts O Pen Seen} (made : Settings) (birth : Birth) (archive : Archive E O Pen Seen erase once) : Type 0 where
  pub first : List Use
  pub are : AreFirst birth first
  pub lives : Lives made first (alone archive)

-- from one archive to the next by an act that returned this
pub record Takes {E O Pen Seen : Type 0} {erase : EraseGhosts E} {once : OnceGhosts O Pen Seen} (old new : Archive E O Pen Seen erase once) (act : Act) (returned : Returned) : Type 0 where
  pub uses : List Use
  pub are : AreUses act returned uses
  pub valid : AllByRecursion IsUse uses
  pub leads : Uses (alone old) uses (alone new)

-- from one archive to another by these turns
pub record Follows {E O Pen Seen : Type 0} {erase : EraseGhosts E} {once : OnceGhosts O Pen Seen} (old new : Archive E O Pen Seen erase once) (turns : List Turn) : Type 0 where
  pub uses : List Use
  pub are : AreTurns turns uses
  pub valid : AllByRecursion IsUse uses
  pub leads : Uses (alone old) uses (alone new)

-- A crash came at rest, and both disks begin again as it left them.
pub record Loses {E O Pen Seen : Type 0} (erase : EraseGhosts E) (once : OnceGhosts O Pen Seen) (e : E) (o : O) (pen : Pen) (f : E) (p : O) (new : Pen) : Type 0 where
  pub left : Left
  pub now : LeftNow (erase.model e) (once.model pen) left
  pub begins : IsFound (erase.model f) (once.model new) left
  pub count : once.block_count p ≡ once.block_count o
  pub honest_erase : erase.honest f
  pub honest_once : once.honest p new

-- A crash came at rest, and after that openings led to an archive.
pub record Reopens {E O Pen Seen : Type 0} (erase : EraseGhosts E) (once : OnceGhosts O Pen Seen) (e : E) (o : O) (pen : Pen) (returned : Returned) (new : Archive E O Pen Seen erase once) : Type 0 where
  pub left : Left
  pub now : LeftNow (erase.model e) (once.model pen) left
  pub rest : List Use
  pub are : AreOpenings returned rest
  pub valid : AllByRecursion IsUse rest
  pub leads : Uses (fallen erase once o left) rest (alone new)

-- the archive represents a history, or must be opened again
abbrev pub IsSomewhere : {E O Pen Seen : Type 0} {erase : EraseGhosts E} {once : OnceGhosts O Pen Seen} → Archive E O Pen Seen erase once → Type 0
IsSomewhere a = ((h : History) × Represents a h) ⊎ (is_down a ≡ true)
