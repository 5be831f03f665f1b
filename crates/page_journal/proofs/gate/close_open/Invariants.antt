use Rattle.std.proofs.Common.{◌≡◌, ◌↔◌, ◌+◌, ◌-◌, ℕ, List}
use Rattle.disk_models.specs.Erase.{Leaves}
use Rattle.page_journal.specs.Bookkeeping.{open_slots}
use Rattle.page_journal.specs.Recovers.{Recovers}
use Rattle.page_journal.specs.inner.Laying.{HomesRepresent}
use Rattle.page_journal.proofs.gate.close_open.Given as goal

abbrev pub invariant-loop-k : goal.invariant-loop-k
invariant-loop-k g l = record {
  size : g.D.EraseDisk.octet_count l.disk ≡ g.D.EraseDisk.octet_count l.fn.disk;
  counts : g.D.EraseDisk.fault_count l.disk ≡ g.D.EraseDisk.fault_count l.fn.disk;
  honest : g.D.EraseDisk.honest l.fn.disk ↔ g.D.EraseDisk.honest l.disk;
  crash : g.D.EraseDisk.honest l.fn.disk → (homes : ℕ) (note : List ℕ) (pages : List (List ℕ)) → HomesRepresent homes note (open_slots l.first l.count) (g.D.EraseDisk.model l.fn.disk) pages
      → Leaves (g.D.EraseDisk.model l.fn.disk) (g.D.EraseDisk.model l.disk) (λ c. Recovers homes note c pages);
  stands : g.D.EraseDisk.honest l.fn.disk → (homes : ℕ) (note : List ℕ) (pages : List (List ℕ)) → HomesRepresent homes note (open_slots l.first l.count) (g.D.EraseDisk.model l.fn.disk) pages
      → HomesRepresent homes note (open_slots (l.first + l.k) (l.count - l.k)) (g.D.EraseDisk.model l.disk) pages;
}
