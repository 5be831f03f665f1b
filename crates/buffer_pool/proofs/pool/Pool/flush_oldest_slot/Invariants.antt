use Rattle.std.proofs.Common.{◌≡◌, ℕ, List, false, length}
use Rattle.disk_models.specs.Erase.{Leaves}
use Rattle.page_journal.specs.Calls.{SameJournal}
use Rattle.page_journal.specs.Journal.{disk_of, home_pages, needs_recovery, note_of, opened_slots, unhomed_pages}
use Rattle.page_journal.specs.Recovers.{IsListed, Recovers}
use Rattle.buffer_pool.specs.Pool.{Maps, most_clean}
use Rattle.buffer_pool.proofs.pool.Pool.flush_oldest_slot.Given as goal

abbrev pub invariant-loop-n : goal.invariant-loop-n
invariant-loop-n g l = record {
  journal : SameJournal g.D.EraseDisk l.fn.self.journal l.self.journal ⊥;
  opened : opened_slots l.self.journal ≡ opened_slots l.fn.self.journal;
  capacity : most_clean l.self ≡ most_clean l.fn.self;
  usable : needs_recovery l.self.journal ≡ false;
  dirty : (n : ℕ) → IsListed n (unhomed_pages l.self.journal) → IsListed n (unhomed_pages l.fn.self.journal);
  maps : g.D.EraseDisk.honest (disk_of l.fn.self.journal) → (pages : List (List ℕ)) → Maps g.D.EraseDisk l.fn.self pages → Maps g.D.EraseDisk l.self pages;
  crash : g.D.EraseDisk.honest (disk_of l.fn.self.journal) → (pages : List (List ℕ)) → Maps g.D.EraseDisk l.fn.self pages
      → Leaves (g.D.EraseDisk.model (disk_of l.fn.self.journal)) (g.D.EraseDisk.model (disk_of l.self.journal)) (λ c. Recovers (home_pages l.fn.self.journal) (note_of l.fn.self.journal) c pages);
}

abbrev pub decreases-loop-n : goal.decreases-loop-n
decreases-loop-n g l = length (unhomed_pages l.self.journal)
