use Rattle.std.proofs.Common.{◌≡◌, ◌*◌, ◌≤◌, ◌↔◌, ℕ, List, length}
use Rattle.disk_models.specs.Once.{settled_in}
use Rattle.once_store.specs.Shelves.{disk_of, next_of, pen_of}
use Rattle.page_tx.specs.Start.{Start}
use Rattle.route_meaning.specs.History.{History}
use Rattle.disk_archive.specs.inner.Applications.{IsPlan, KeepsBlocks, Reached, Reaches}
use Rattle.disk_archive.proofs.planning_changes.plan_more.Given as goal

abbrev pub invariant-loop : goal.invariant-loop
invariant-loop g l = record {
  reaches : (start : Start) (h : History) → g.O.OnceDisk.honest (disk_of l.fn.shelf) (pen_of l.fn.shelf)
      → Reached (g.O.OnceDisk.block_count (disk_of l.fn.shelf)) l.settings (settled_in (g.O.OnceDisk.model (pen_of l.fn.shelf))) (g.P.Pages.shows l.fn.pages start) l.sequencer l.fn.plan h
      → Reaches (g.O.OnceDisk.block_count (disk_of l.fn.shelf)) l.settings (settled_in (g.O.OnceDisk.model (pen_of l.shelf))) (g.P.Pages.shows l.pages start) l.sequencer l.plan h;
  fits : IsPlan l.settings (g.P.Pages.homes l.pages) (g.P.Pages.next l.pages) (next_of l.shelf) l.sequencer l.plan;
  few : length (g.P.Pages.named l.pages) ≤ 30;
  shows : (start : Start) (shown : List (List ℕ)) → g.P.Pages.shows l.fn.pages start shown → (after : List (List ℕ)) × g.P.Pages.shows l.pages start after;
  shelf : KeepsBlocks g.O.OnceDisk (2 * l.counter) l.fn.shelf l.shelf ⊥;
  homes : g.P.Pages.homes l.pages ≡ g.P.Pages.homes l.fn.pages;
  down : g.P.Pages.down l.pages ≡ g.P.Pages.down l.fn.pages;
  honest : g.P.Pages.honest l.fn.pages ↔ g.P.Pages.honest l.pages;
  quiet : (g.P.Pages.faults l.pages ≡ g.P.Pages.faults l.fn.pages) × (g.O.OnceDisk.pen_fault_count (pen_of l.shelf) ≡ g.O.OnceDisk.pen_fault_count (pen_of l.fn.shelf));
}
