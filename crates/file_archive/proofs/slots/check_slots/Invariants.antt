use Rattle.std.proofs.Common.{◌≡◌, ◌<◌, ◌+◌, ◌-◌, ◌%◌, ℕ}
use Rattle.disk_models.specs.Erase.{Stays}
use Rattle.disk_models.specs.Serves.{Serves}
use Rattle.page_journal.specs.Layout.{IsOpen, transaction}
use Rattle.file_archive.proofs.slots.check_slots.Given as goal

abbrev pub invariant-loop-slot : goal.invariant-loop-slot
invariant-loop-slot g l = record {
  serves : Serves g.E.EraseDisk l.fn.disk l.disk ⊥;
  stays : g.E.EraseDisk.honest l.fn.disk → Stays (g.E.EraseDisk.model l.fn.disk) (g.E.EraseDisk.model l.disk);
  order : g.E.EraseDisk.honest l.fn.disk → (slot : ℕ) → slot < l.slot → IsOpen (g.E.EraseDisk.model l.fn.disk).octet slot → (0 < transaction (g.E.EraseDisk.model l.fn.disk).octet slot) × (transaction (g.E.EraseDisk.model l.fn.disk).octet slot % 8 ≡ (slot + 1) % 8) × (l.newest.number - transaction (g.E.EraseDisk.model l.fn.disk).octet slot < l.newest.open);
}
