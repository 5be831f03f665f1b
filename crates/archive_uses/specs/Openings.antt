-- What the opening of both disks promises, as a record of its clauses.
use Rattle.std.specs.Prelude.{◌≡◌, ◌⊎◌, ◌↔◌, Result, IfOk, OnOk}
use Rattle.disk_models.specs.declared.erase.EraseDisk.{Ghosts as EraseGhosts}
use Rattle.disk_models.specs.declared.once.OnceDisk.{Ghosts as OnceGhosts}
use Rattle.disk_models.specs.Left.{CrashPair, Left, LeftNow}
use Rattle.route_meaning.specs.History.{History}
use Rattle.disk_archive.specs.declared.archive.Archive.{Archive}
use Rattle.disk_archive.specs.declared.open_error.OpenError.{OpenError}
use Rattle.disk_archive.specs.declared.refused.Refused.{Refused}
use Rattle.disk_archive.specs.Archives.{Represents, site_of}
use Rattle.disk_archive.specs.Openings.{NamesArchive, ReadsAs}
use Rattle.disk_archive.specs.Outcome.{erase_after, once_after, pen_after}
use Rattle.disk_archive.specs.Sites.{LeftRepresents, Site}

-- both disks are opened, with the pen of the write-once one
pub record Opens {E O Pen Seen : Type 0} {erase : EraseGhosts E} {once : OnceGhosts O Pen Seen} (e : E) (o : O) (pen : Pen) (result : Result (Archive E O Pen Seen erase once) (Refused E O OpenError Pen Seen)) : Type 0 where
  pub opened : erase.honest e → once.honest o pen → IfOk result (λ archive. (site : Site) (h : History) → ReadsAs site (once.block_count o) (erase.model e) (once.model pen) h → Represents archive h)
  pub site : erase.honest e → IfOk result (λ archive. (site : Site) (h : History) → ReadsAs site (once.block_count o) (erase.model e) (once.model pen) h → site_of archive ≡ site)
  pub named : erase.honest e → OnOk result (NamesArchive (erase.octet_count e) (erase.model e).octet (once.block_count o))
  pub of_erase : erase.honest e ↔ erase.honest (erase_after result)
  pub disk : once_after result ≡ o
  pub of_once : once.honest o pen ↔ once.honest o (pen_after result)
  pub unburnt : once.honest o pen → once.model (pen_after result) ≡ once.model pen
  -- what a crash inside the call leaves, or one after it, could be left before, or represents what the disks read as
  pub inside : erase.honest e → once.honest o pen → (site : Site) (h : History) → ReadsAs site (once.block_count o) (erase.model e) (once.model pen) h
      → (left : Left) → CrashPair (erase.model e) (erase.model (erase_after result)) (once.model pen) (once.model pen) (once.model (pen_after result)) left → LeftNow (erase.model e) (once.model pen) left ⊎ LeftRepresents site h left
  pub after : erase.honest e → once.honest o pen → (site : Site) (h : History) → ReadsAs site (once.block_count o) (erase.model e) (once.model pen) h
      → (left : Left) → LeftNow (erase.model (erase_after result)) (once.model (pen_after result)) left → LeftNow (erase.model e) (once.model pen) left ⊎ LeftRepresents site h left
