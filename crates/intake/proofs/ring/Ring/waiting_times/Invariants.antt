use Rattle.std.proofs.Common.{◌≡◌, ◌⊎◌, ◌≤◌, ◌-◌, ℕ, List, []}
use Rattle.page_tx.specs.Start.{Start}
use Rattle.intake.specs.Outlines.{ReportsTimes}
use Rattle.intake.specs.Calls.{OnlyReads}
use Rattle.intake.proofs.ring.Ring.waiting_times.Given as goal

abbrev pub invariant-loop-at : goal.invariant-loop-at
invariant-loop-at g l = record {
  few : l.at ≤ l.self.used;
  reported : (start : Start) (shown : List (List ℕ)) → g.P.Pages.shows l.fn.pages start shown → ReportsTimes shown l.self l.at l.times.items;
  early : (12 ≤ l.self.used) ⊎ ((l.at ≡ 0) × (l.times.items ≡ []) × (l.pages ≡ l.fn.pages));
  same : OnlyReads g.P.Pages l.fn.pages l.pages ⊥;
}

abbrev pub decreases-loop-at : goal.decreases-loop-at
decreases-loop-at g l = l.self.used - l.at
