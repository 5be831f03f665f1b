-- What the disk of a journal means.
use Rattle.std.proofs.Common.{◌≡◌, ℕ, List, subst}
use Rattle.disk_models.specs.declared.erase.EraseDisk.{Ghosts}
use Rattle.page_journal.specs.declared.journal.Journal.{Journal}
use Rattle.page_journal.specs.Journal.{Keeps, disk_of, home_pages, note_of}
use Rattle.page_journal.proofs.api.Kept.{kept_recovers}
use Rattle.disk_archive.specs.inner.Creating.{CrashRepresents}

-- whatever a crash leaves of the disk of a journal means the pages that it keeps
pub means_kept : {D : Type 0} (device : Ghosts D) (journal : Journal D device) (homes : ℕ) (note : List ℕ) (pages : List (List ℕ)) → home_pages journal ≡ homes → note_of journal ≡ note → Keeps device journal pages → CrashRepresents homes note (device.model (disk_of journal)) pages
means_kept device journal homes note pages same_homes same_note keeps =
    subst (λ (m : ℕ). CrashRepresents m note (device.model (disk_of journal)) pages) same_homes
    (subst (λ (x : List ℕ). CrashRepresents (home_pages journal) x (device.model (disk_of journal)) pages) same_note
    (λ c may. kept_recovers device journal pages keeps c may))
