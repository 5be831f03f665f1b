use Rattle.std.proofs.Common.{◌≤◌, ℕ, List}
use Rattle.page_tx.specs.Start.{Start}
use Rattle.tsb_walk.specs.Shown.{HasKey}
use Rattle.tsb_walk.specs.PageWays.{PageWay}
use Rattle.tsb_walk.specs.Refusals.{OnlyReads}
use Rattle.tsb_walk.proofs.locating.locate.Given as goal

abbrev pub invariant-loop-at : goal.invariant-loop-at
invariant-loop-at g l = record {
  has : HasKey l.at l.key;
  some : 1 ≤ l.at.level;
  way : (start : Start) (shown : List (List ℕ)) → g.P.Pages.shows l.initial.pages start shown → PageWay shown l.key l.initial.at l.at;
  same : OnlyReads g.P.Pages l.initial.pages l.pages ⊥;
}

abbrev pub decreases-loop-at : goal.decreases-loop-at
decreases-loop-at g l = l.at.level
