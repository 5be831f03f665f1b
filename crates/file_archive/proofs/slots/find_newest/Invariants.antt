use Rattle.std.proofs.Common.{◌≡◌, ◌<◌, ◌≤◌, ℕ}
use Rattle.disk_models.specs.Erase.{Stays}
use Rattle.disk_models.specs.Serves.{Serves}
use Rattle.page_journal.specs.Layout.{IsOpen, transaction}
use Rattle.file_archive.specs.Slots.{open_count}
use Rattle.file_archive.proofs.slots.find_newest.Given as goal

abbrev pub invariant-loop-slot : goal.invariant-loop-slot
invariant-loop-slot g l = record {
  serves : Serves g.E.EraseDisk l.fn.disk l.disk ⊥;
  stays : g.E.EraseDisk.honest l.fn.disk → Stays (g.E.EraseDisk.model l.fn.disk) (g.E.EraseDisk.model l.disk);
  most : g.E.EraseDisk.honest l.fn.disk → (slot : ℕ) → slot < l.slot → IsOpen (g.E.EraseDisk.model l.fn.disk).octet slot → transaction (g.E.EraseDisk.model l.fn.disk).octet slot ≤ l.newest.number;
  one : g.E.EraseDisk.honest l.fn.disk → 0 < l.newest.number → (slot : ℕ) × (slot < 8) × IsOpen (g.E.EraseDisk.model l.fn.disk).octet slot × (l.newest.number ≡ transaction (g.E.EraseDisk.model l.fn.disk).octet slot);
  few : l.newest.open ≤ l.slot;
  count : g.E.EraseDisk.honest l.fn.disk → l.newest.open ≡ open_count (g.E.EraseDisk.model l.fn.disk).octet l.slot;
}
