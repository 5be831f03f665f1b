-- What two disks represent, before a command and after it.
use Rattle.std.specs.Prelude.{◌≡◌, Bool, true}
use Rattle.disk_models.specs.declared.erase.EraseDisk.{Ghosts as EraseGhosts}
use Rattle.disk_models.specs.declared.once.OnceDisk.{Ghosts as OnceGhosts}
use Rattle.route_meaning.specs.History.{History}
use Rattle.archive_pages.specs.declared.settings.Settings.{Settings}
use Rattle.disk_archive.specs.Openings.{ReadsAs}
use Rattle.disk_archive.specs.Sites.{IsNoted, Rests, Site}
use Rattle.service.specs.declared.invocation.Creation.{Creation}
use Rattle.disk_commands.specs.declared.disks.Disks.{Disks}

-- both disks follow their models
abbrev pub FollowModels : {E O Pen Seen : Type 0} (erase : EraseGhosts E) (once : OnceGhosts O Pen Seen) → Disks E O Pen Seen → Type 0
FollowModels erase once d = erase.honest d.erase × once.honest d.once.value d.pen

-- Both disks follow their models, and what they read as is an archive that represents the history.
pub record Represent {E O Pen Seen : Type 0} (erase : EraseGhosts E) (once : OnceGhosts O Pen Seen) (d : Disks E O Pen Seen) (h : History) : Type 0 where
  pub follow : FollowModels erase once d
  pub site : Site
  pub reads : ReadsAs site (once.block_count d.once.value) (erase.model d.erase) (once.model d.pen) h

-- Both disks follow their models, and whatever they read as, or a crash may leave of them now, is an archive that represents a history which
-- this one begins.
pub record Keep {E O Pen Seen : Type 0} (erase : EraseGhosts E) (once : OnceGhosts O Pen Seen) (d : Disks E O Pen Seen) (h : History) : Type 0 where
  pub follow : FollowModels erase once d
  pub site : Site
  pub noted : IsNoted site
  pub count : site.blocks ≡ once.block_count d.once.value
  pub rests : Rests site (erase.model d.erase) (once.model d.pen) h

-- What a command leaves: disks that keep the history, and that read as it if it says so.
pub record Leave {E O Pen Seen : Type 0} (erase : EraseGhosts E) (once : OnceGhosts O Pen Seen) (d : Disks E O Pen Seen) (is_read : Bool) (h : History) : Type 0 where
  pub keep : Keep erase once d h
  pub read : is_read ≡ true → Represent erase once d h

-- what an archive is made with, as it is asked for
abbrev pub settings_for : Creation → Settings
settings_for made = record { collectors = made.collectors; ring = made.ring }
