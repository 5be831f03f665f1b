use Rattle.std.proofs.Common.{ℕ, List}
use Rattle.page_tx.specs.Start.{Start}
use Rattle.intake.specs.Calls.{OnlyReads}
use Rattle.disk_archive.specs.inner.Recalling.{KnowsMarks, KnowsTimes}
use Rattle.disk_archive.proofs.recalling.recall.Given as goal

abbrev pub invariant-loop-collector : goal.invariant-loop-collector
invariant-loop-collector g l = record {
  marks : KnowsMarks l.head.lanes l.sequencer l.collector;
  times : (start : Start) (shown : List (List ℕ)) → g.P.Pages.shows l.fn.pages start shown → KnowsTimes l.settings l.head.lanes shown l.sequencer l.collector;
  same : OnlyReads g.P.Pages l.fn.pages l.pages ⊥;
}
