-- A journal over several calls.
use Rattle.std.proofs.Common.{◌∙◌, refl}
use Rattle.disk_models.specs.declared.erase.EraseDisk.{Ghosts}
use Rattle.disk_models.proofs.api.Serving.{serves_none, serves_then, serves_as}
use Rattle.page_journal.specs.declared.journal.Journal.{Journal}
use Rattle.page_journal.specs.Journal.{disk_of}
use Rattle.page_journal.specs.Calls.{SameJournal}

-- no call
pub same_none : {D : Type 0} (device : Ghosts D) (journal : Journal D device) (failed : Type 0) → ¬ failed → SameJournal device journal journal failed
same_none device journal failed none = record { homes = refl; note = refl; serves = serves_none device (disk_of journal) failed none }

-- one call that reported no failure, and then another
pub same_then : {D : Type 0} (device : Ghosts D) (a b c : Journal D device) (first second : Type 0) → SameJournal device a b first → ¬ first → SameJournal device b c second → SameJournal device a c second
same_then device a b c first second one none two = record {
  homes = two.homes ∙ one.homes;
  note = two.note ∙ one.note;
  serves = serves_then device (disk_of a) (disk_of b) (disk_of c) first second one.serves none two.serves;
}

-- the same failure, stated otherwise
pub same_as : {D : Type 0} (device : Ghosts D) (a b : Journal D device) (first second : Type 0) → SameJournal device a b first → (first → second) → (second → first) → SameJournal device a b second
same_as device a b first second one to from = record { homes = one.homes; note = one.note; serves = serves_as device (disk_of a) (disk_of b) first second one.serves to from }
