-- How the life of an archive begins, and its uses from there on.
use Rattle.std.specs.Prelude.{◌≡◌, ◌⊎◌, List, [], ◌∷◌, ◌++◌}
use Rattle.std.specs.List.{AllByRecursion}
use Rattle.disk_models.specs.declared.erase.EraseDisk.{Ghosts as EraseGhosts}
use Rattle.disk_models.specs.declared.once.OnceDisk.{Ghosts as OnceGhosts}
use Rattle.disk_models.specs.Left.{Left}
use Rattle.page_journal.specs.Identity.{HasNoJournal}
use Rattle.interleaving_core.specs.Steps.{empty}
use Rattle.archive_pages.specs.declared.settings.Settings.{Settings}
use Rattle.disk_archive.specs.Archives.{Represents, settings_of}
use Rattle.disk_archive.specs.Sites.{IsNoted, LeftRepresents, Site}
use Rattle.archive_uses.specs.Use.{IsUse, Use}
use Rattle.archive_uses.specs.Use.Use.{lost}
use Rattle.archive_uses.specs.Uses.{Leads, Scene, Stage, Uses}
use Rattle.archive_uses.specs.Uses.Stage.{on, off, gone}

-- The life of an archive of these settings begins here, with these uses: with none, if it was created; or a crash came inside its creation, and
-- left what represents the history of one to which nothing was given. That is as though it had been created, and lost then.
abbrev pub Starts : {E O Pen Seen : Type 0} {erase : EraseGhosts E} {once : OnceGhosts O Pen Seen} → Settings → List Use → Stage E O Pen Seen erase once → Type 0
Starts made [] (on a) = Represents a (empty made.collectors) × (settings_of a ≡ made)
Starts made (lost ∷ []) (gone k left) = (site : Site) × IsNoted site × (site.settings ≡ made) × (site.blocks ≡ k) × LeftRepresents site (empty made.collectors) left
Starts made _ _ = ⊥

-- A crash while an archive of these settings was created on both disks left what one at rest leaves before that; or no journal; or a life begins.
abbrev pub LeftByCreation : {E O Pen Seen : Type 0} (erase : EraseGhosts E) (once : OnceGhosts O Pen Seen) → Settings → E → O → Pen → Left → Type 0
LeftByCreation {E} {O} {Pen} {Seen} erase once made e o pen left =
    let before : Stage E O Pen Seen erase once = off e o pen in
    let after : Stage E O Pen Seen erase once = gone (once.block_count o) left in
    Leads lost before after ⊎ (HasNoJournal left.erase ⊎ Starts made (lost ∷ []) after)

-- These are the uses of an archive of these settings from its creation on, each made of values, and they lead to this scene.
pub record Lives {E O Pen Seen : Type 0} {erase : EraseGhosts E} {once : OnceGhosts O Pen Seen} (made : Settings) (us : List Use) (last : Scene E O Pen Seen erase once) : Type 0 where
  pub start : List Use
  pub first : Stage E O Pen Seen erase once
  pub begins : Starts made start first
  pub later : List Use
  pub valid : AllByRecursion IsUse later
  pub leads : Uses (record { stage = first; hand = [] }) later last
  pub are : us ≡ start ++ later
