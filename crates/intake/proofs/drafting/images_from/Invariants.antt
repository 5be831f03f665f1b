use Rattle.std.proofs.Common.{◌≡◌, ◌/◌, ℕ, List}
use Rattle.page_journal.specs.Layout.{pages_of}
use Rattle.page_journal.specs.Recovers.{laid}
use Rattle.page_tx.specs.Start.{Start}
use Rattle.intake.specs.Calls.{OnlyReads}
use Rattle.intake.specs.inner.Drafts.{numbers_from, KeepsUsed}
use Rattle.intake.proofs.drafting.images_from.Given as goal

abbrev pub invariant-loop-k : goal.invariant-loop-k
invariant-loop-k g l = record {
  numbers : pages_of l.images.items ≡ numbers_from l.ring.low l.ring.count (l.at / 16384) l.k;
  kept : (start : Start) (shown : List (List ℕ)) → g.P.Pages.shows l.fn.pages start shown → KeepsUsed l.ring shown (laid l.images.items shown);
  same : OnlyReads g.P.Pages l.fn.pages l.pages ⊥;
}
