use Rattle.std.proofs.Common.{◌<◌, ℕ, List}
use Rattle.page_tx.specs.Start.{Start}
use Rattle.archive_head.specs.declared.lane.Lane.{Lane}
use Rattle.intake.specs.Calls.{OnlyReads}
use Rattle.archive_pages.specs.Batches.{HasLane}
use Rattle.archive_pages.specs.Places.{ring_of}
use Rattle.disk_archive.specs.Rings.{IsReadRing}
use Rattle.disk_archive.proofs.checking_rings.check_rings.Given as goal

abbrev pub invariant-loop-collector : goal.invariant-loop-collector
invariant-loop-collector g l = record {
  read : (start : Start) (shown : List (List ℕ)) (k : ℕ) (lane : Lane) → g.P.Pages.shows l.fn.pages start shown → k < l.collector → HasLane l.head k lane → IsReadRing shown (ring_of l.settings k lane);
  same : OnlyReads g.P.Pages l.fn.pages l.pages ⊥;
}
