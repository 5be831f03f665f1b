-- What is promised of uses: they are a run of the pure machine.
use Rattle.std.specs.Prelude.{◌≡◌, ◌⊎◌, ℕ, List, Bool, true, false}
use Rattle.disk_models.specs.declared.erase.EraseDisk.{Ghosts as EraseGhosts}
use Rattle.disk_models.specs.declared.once.OnceDisk.{Ghosts as OnceGhosts}
use Rattle.disk_models.specs.Left.{Left, LeftNow}
use Rattle.route_meaning.specs.History.{History}
use Rattle.interleaving_core.specs.declared.reply.Reply.{Reply}
use Rattle.interleaving_core.specs.declared.step.Step.{Step}
use Rattle.interleaving_core.specs.World.{World, created}
use Rattle.interleaving_core.specs.Does.{Runs}
use Rattle.interleaving_core.specs.Headline.{Headline}
use Rattle.archive_pages.specs.declared.settings.Settings.{Settings}
use Rattle.disk_archive.specs.Archives.{Represents, erase_state, is_down, once_of, once_state, settings_of}
use Rattle.disk_archive.specs.Sites.{IsNoted, LeftRepresents, Site}
use Rattle.archive_uses.specs.Use.{AllStepsOf, Use}
use Rattle.archive_uses.specs.Uses.{Stage}
use Rattle.archive_uses.specs.Uses.Stage.{on, off, gone}

-- The uses are a run of the pure machine, from a created world of this many collectors to one with this history, which is down or isn't;
-- and all that is promised of runs is true of it.
pub record AreRun (collectors : ℕ) (us : List Use) (down : Bool) (h : History) : Type 0 where
  pub steps : List Step
  pub replies : List Reply
  pub last : World
  pub steps_of : AllStepsOf us steps replies
  pub runs : Runs (created collectors) steps replies last
  pub is_down : last.down ≡ down
  pub history : last.history ≡ h
  pub headline : Headline collectors steps replies last

-- What a crash left of disks, of which the write-once one has this many blocks, represents a history with P of an archive of these settings,
-- and its note says both. So if there is room for its pages, an opening fails only for the device or for lack of memory.
pub record LeftWith (made : Settings) (P : History → Type 0) (blocks : ℕ) (left : Left) : Type 0 where
  pub site : Site
  pub noted : IsNoted site
  pub settings : site.settings ≡ made
  pub count : site.blocks ≡ blocks
  pub history : History
  pub holds : P history
  pub represents : LeftRepresents site history left

-- The archive has these settings and represents a history with P of one that is up; or it must be opened again, and whatever a crash may leave now
-- represents one with P of one that is down. The same of both disks, and of what a crash left.
abbrev pub EndsWith : {E O Pen Seen : Type 0} {erase : EraseGhosts E} {once : OnceGhosts O Pen Seen} → Settings → (Bool → History → Type 0) → Stage E O Pen Seen erase once → Type 0
EndsWith {once = once} made P (on a) = ((h : History) × P false h × Represents a h × (settings_of a ≡ made)) ⊎ ((is_down a ≡ true) × ((left : Left) → LeftNow (erase_state a) (once_state a) left → LeftWith made (P true) (once.block_count (once_of a)) left))
EndsWith {erase = erase} {once = once} made P (off e o pen) = (left : Left) → LeftNow (erase.model e) (once.model pen) left → LeftWith made (P true) (once.block_count o) left
EndsWith made P (gone k left) = LeftWith made (P true) k left

-- the uses end with the history of a run that they are
abbrev pub EndsInRun : {E O Pen Seen : Type 0} {erase : EraseGhosts E} {once : OnceGhosts O Pen Seen} → Settings → List Use → Stage E O Pen Seen erase once → Type 0
EndsInRun made us stage = EndsWith made (AreRun made.collectors us) stage
