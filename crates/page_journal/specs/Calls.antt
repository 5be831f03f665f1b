-- What the calls of a journal leave.
use Rattle.std.specs.Prelude.{◌≡◌, ◌+◌, ◌++◌, List, [], true, false}
use Rattle.disk_models.specs.declared.erase.EraseDisk.{Ghosts}
use Rattle.disk_models.specs.Serves.{Serves}
use Rattle.page_journal.specs.Layout.{Image, pages_of, transaction}
use Rattle.page_journal.specs.Bookkeeping.{ring_slot, without}
use Rattle.page_journal.specs.Journal.{disk_of, home_pages, note_of, opened_slots, closed_slots, next_slot, next_number, unhomed_pages, needs_recovery}
use Rattle.page_journal.specs.declared.journal.Journal.{Journal}

-- A journal over a call: its number of home pages and its note stay, and what each call keeps of its device.
pub record SameJournal {D : Type 0} (device : Ghosts D) (old new : Journal D device) (failed : Type 0) : Type 0 where
  pub homes : home_pages new ≡ home_pages old
  pub note : note_of new ≡ note_of old
  pub serves : Serves device (disk_of old) (disk_of new) failed

-- nothing but its disk has changed
pub record SameButDisk {D : Type 0} (device : Ghosts D) (old new : Journal D device) : Type 0 where
  pub homes : home_pages new ≡ home_pages old
  pub note : note_of new ≡ note_of old
  pub opened : opened_slots new ≡ opened_slots old
  pub unhomed : unhomed_pages new ≡ unhomed_pages old
  pub recovery : needs_recovery new ≡ needs_recovery old

-- Nothing is posted: all slots are closed, and all pages are home. The next transaction is number 1, in the first slot.
pub record IsIdle {D : Type 0} (device : Ghosts D) (journal : Journal D device) : Type 0 where
  pub closed : closed_slots journal ≡ 8
  pub unhomed : unhomed_pages journal ≡ []
  pub usable : needs_recovery journal ≡ false
  pub slot : next_slot journal ≡ 0
  pub number : next_number journal ≡ 1

-- A write or a sync failed: the journal must be opened again. Until then it reports the same slots and pages as before.
pub record IsDown {D : Type 0} (device : Ghosts D) (old new : Journal D device) : Type 0 where
  pub recovery : needs_recovery new ≡ true
  pub opened : opened_slots new ≡ opened_slots old
  pub unhomed : unhomed_pages new ≡ unhomed_pages old

-- A transaction took the next slot, under the next number. None of its pages is home: one that wasn't before keeps its place in
-- the list, and the others follow.
pub record TakesSlot {D : Type 0} (device : Ghosts D) (posted : List Image) (old new : Journal D device) : Type 0 where
  pub usable : needs_recovery new ≡ false
  pub opened : opened_slots new ≡ opened_slots old + 1
  pub unhomed : unhomed_pages new ≡ unhomed_pages old ++ without (unhomed_pages old) (pages_of posted)
  pub numbered : device.honest (disk_of old) → transaction (device.model (disk_of new)).octet (next_slot old) ≡ next_number old
  pub next : next_number new ≡ next_number old + 1
  pub place : next_slot new ≡ ring_slot (next_slot old + 1)

-- the same, and the oldest slot was closed
pub record TakesTurn {D : Type 0} (device : Ghosts D) (posted : List Image) (old new : Journal D device) : Type 0 where
  pub usable : needs_recovery new ≡ false
  pub opened : opened_slots new ≡ opened_slots old
  pub unhomed : unhomed_pages new ≡ unhomed_pages old ++ without (unhomed_pages old) (pages_of posted)
  pub numbered : device.honest (disk_of old) → transaction (device.model (disk_of new)).octet (next_slot old) ≡ next_number old
  pub next : next_number new ≡ next_number old + 1
  pub place : next_slot new ≡ ring_slot (next_slot old + 1)
