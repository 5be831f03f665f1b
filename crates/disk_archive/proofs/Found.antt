-- What a disk reads as is what is looked at once its journal is opened.
use Rattle.std.proofs.Common.{◌≡◌, ℕ, List, refl, sym, ◌∙◌, arith}
use Rattle.disk_models.specs.declared.erase.EraseDisk.{Ghosts}
use Rattle.page_journal.specs.declared.error.OpenError.{OpenError as JournalError}
use Rattle.page_journal.specs.declared.error.OpenError.TheVariants as journals
use Rattle.page_journal.specs.Identity.{HasNoJournal, Names}
use Rattle.page_journal.specs.Journal.{disk_of, home_pages, note_of}
use Rattle.page_journal.specs.Refusals.{IsFaultOrMemory as IsJournalFaultOrMemory, OpenRefusal}
use Rattle.buffer_pool.specs.Pool.{Maps, journal_of}
use Rattle.disk_archive.specs.declared.looks.Looks.{Looks}
use Rattle.disk_archive.specs.inner.Restoring.{Restores, of_opening}
use Rattle.disk_archive.specs.declared.open_error.OpenError.TheVariants as openings
use Rattle.disk_archive.specs.Openings.{IsNoneFaultOrMemory, IsFaultOrMemory, NamesArchive}

-- the home pages and the note that a disk names are the only ones
pub one_count : (homes others : ℕ) (note its : List ℕ) (f : ℕ → ℕ) → Names homes note f → Names others its f → homes ≡ others
one_count homes others note its f a b = sym a.count ∙ b.count

pub one_note : (homes others : ℕ) (note its : List ℕ) (f : ℕ → ℕ) → Names homes note f → Names others its f → note ≡ its
one_note homes others note its f a b = sym a.noted ∙ b.noted

-- pages are looked at
pub looks_on : {E : Type 0} (device : Ghosts E) (looks : Looks E device) (homes : ℕ) (note : List ℕ) (pages : List (List ℕ)) → home_pages (journal_of looks.pool) ≡ homes → note_of (journal_of looks.pool) ≡ note → device.honest (disk_of (journal_of looks.pool))
    → Maps device looks.pool pages → Restores device looks homes note pages
looks_on device looks homes note pages count noted honest maps = record { homes = count; note = noted; looked = record { honest = honest; maps = maps; noted = noted; same = refl } }

-- ---- refusals

-- a disk that names an archive isn't reported to hold none
pub none_named : (size : ℕ) (f : ℕ → ℕ) (blocks : ℕ) (e : JournalError) → OpenRefusal size f e → of_opening e ≡ openings.NotAJournal → NamesArchive size f blocks → ⊥
none_named size f blocks journals.Fault refused reported named = cc
none_named size f blocks journals.OutOfMemory refused reported named = cc
none_named size f blocks (journals.BadNode page) refused reported named = cc
none_named size f blocks journals.NotAJournal refused reported named = let low = refused named.homes named.note named.names in let room = named.room in absurd (omega (arith, low, room))

-- a disk that holds no journal isn't reported as damaged
pub none_reported : (size : ℕ) (f : ℕ → ℕ) (e : JournalError) → OpenRefusal size f e → HasNoJournal f → IsNoneFaultOrMemory (of_opening e)
none_reported size f journals.Fault refused none = tt
none_reported size f journals.OutOfMemory refused none = tt
none_reported size f journals.NotAJournal refused none = tt
none_reported size f (journals.BadNode page) refused none = none refused.homes refused.note refused.names

-- a failure of the device and running out of memory are reported as such
pub fault_or_memory_reported : (e : JournalError) → IsJournalFaultOrMemory e → IsFaultOrMemory (of_opening e)
fault_or_memory_reported journals.Fault need = tt
fault_or_memory_reported journals.OutOfMemory need = tt
fault_or_memory_reported (journals.BadNode page) need = need
fault_or_memory_reported journals.NotAJournal need = need
