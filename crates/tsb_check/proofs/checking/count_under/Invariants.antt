use Rattle.std.proofs.Common.{◌≡◌, ◌↔◌, ◌⊎◌, ℕ, List}
use Rattle.std.specs.List.{AllByRecursion}
use Rattle.once_store.specs.Readers.{capacity_of, reader_disk}
use Rattle.page_tx.specs.Start.{Start}
use Rattle.tsb_walk.specs.Knowing.{ReadsWell}
use Rattle.tsb_walk.specs.Refusals.{OnlyReads}
use Rattle.tsb_check.specs.Pages.{IsUnder, IsUnknownUnder}
use Rattle.tsb_check.specs.inner.GoingUnder.{CountsOnUnder, page_weight}
use Rattle.tsb_check.proofs.Used.{UsedOrLeft}
use Rattle.tsb_check.proofs.checking.count_under.Given as goal

abbrev pub invariant-loop-place : goal.invariant-loop-place
invariant-loop-place g l = record {
  pages : OnlyReads g.P.Pages l.initial.pages l.pages ⊥;
  under : (start : Start) (shown : List (List ℕ)) → g.P.Pages.shows l.initial.pages start shown → AllByRecursion (IsUnder shown l.initial.left.items) l.left.items;
  used : (start : Start) (shown : List (List ℕ)) → g.P.Pages.shows l.initial.pages start shown → UsedOrLeft shown l.fn.in_use l.initial.left.items l.left.items;
  went : (start : Start) (shown : List (List ℕ)) → g.P.Pages.shows l.initial.pages start shown → ReadsWell g.O.OnceDisk l.initial.reader l.initial.seen
      → (ReadsWell g.O.OnceDisk l.reader l.seen × CountsOnUnder shown (g.O.OnceDisk.known l.initial.seen) (g.O.OnceDisk.block_count (reader_disk l.initial.reader)) l.initial.left.items l.left.items l.count)
      ⊎ IsUnknownUnder shown (g.O.OnceDisk.known l.initial.seen) (g.O.OnceDisk.block_count (reader_disk l.initial.reader)) l.initial.left.items;
  same : g.O.OnceDisk.honest_seen (reader_disk l.initial.reader) l.initial.seen → g.O.OnceDisk.known l.seen ≡ g.O.OnceDisk.known l.initial.seen;
  disk : reader_disk l.reader ≡ reader_disk l.initial.reader;
  capacity : capacity_of l.reader ≡ capacity_of l.initial.reader;
  honest : g.O.OnceDisk.honest_seen (reader_disk l.initial.reader) l.initial.seen ↔ g.O.OnceDisk.honest_seen (reader_disk l.initial.reader) l.seen;
  faults : g.O.OnceDisk.seen_fault_count l.seen ≡ g.O.OnceDisk.seen_fault_count l.initial.seen;
}

abbrev pub decreases-loop-place : goal.decreases-loop-place
decreases-loop-place g l = page_weight l.left.items
