use Rattle.std.proofs.Common.{◌≡◌, ◌≤◌, ◌+◌, length, drop}
use Rattle.page_journal.specs.Bookkeeping.{without}
use Rattle.page_journal.specs.Layout.{pages_of}
use Rattle.page_tx.proofs.images.count_new.Given as goal

abbrev pub invariant-loop-image : goal.invariant-loop-image
invariant-loop-image l = record {
  few : l.count ≤ l.image-index;
  sum : l.count + length (without (pages_of l.held) (pages_of (drop l.image-index l.images))) ≡ length (without (pages_of l.held) (pages_of l.images));
}
