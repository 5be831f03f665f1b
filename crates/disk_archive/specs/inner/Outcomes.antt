-- What a step of applying did to an archive.
use Rattle.std.specs.Prelude.{◌≡◌, ◌⊎◌}
use Rattle.disk_models.specs.declared.erase.EraseDisk.{Ghosts as EraseGhosts}
use Rattle.disk_models.specs.declared.once.OnceDisk.{Ghosts as OnceGhosts}
use Rattle.route_meaning.specs.History.{History}
use Rattle.interleaving_core.specs.Steps.{NothingToApply}
use Rattle.disk_archive.specs.declared.applying.Step.{Step}
use Rattle.disk_archive.specs.declared.applying.Step.TheVariants.{Applied, Idle}
use Rattle.disk_archive.specs.declared.archive.Archive.{Archive}
use Rattle.disk_archive.specs.Archives.{Represents, site_of}
use Rattle.disk_archive.specs.Sites.{LeftEither}
use Rattle.disk_archive.specs.Crashes.{Crashes}
use Rattle.disk_archive.specs.Moves.{Moves}

-- the archive represents the history that moved on, or nothing of it may be applied
abbrev pub StepIs : {E O Pen Seen : Type 0} {erase : EraseGhosts E} {once : OnceGhosts O Pen Seen} → Archive E O Pen Seen erase once → Step → History → Type 0
StepIs a Applied h = (g : History) × Moves h g × Represents a g
StepIs a Idle h = NothingToApply h × Represents a h

-- what a crash left represents the history, or one to which it moves
pub record CrashesOnStep {E O Pen Seen : Type 0} {erase : EraseGhosts E} {once : OnceGhosts O Pen Seen} (old new : Archive E O Pen Seen erase once) (h : History) : Type 0 where
  pub after : History
  pub is : (after ≡ h) ⊎ Moves h after
  pub crashes : Crashes old new (LeftEither (site_of old) h after)
