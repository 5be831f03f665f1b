use Rattle.std.proofs.Common.{◌≡◌, ◌++◌, ℕ, List, take, drop}
use Rattle.page_journal.specs.Bookkeeping.{is_among}
use Rattle.page_journal.specs.Layout.{pages_of}
use Rattle.page_tx.specs.inner.Placing.{with_image}
use Rattle.page_tx.proofs.images.place_of.Given as goal

abbrev pub invariant-loop-k : goal.invariant-loop-k
invariant-loop-k l = record {
  placed : (page : List ℕ) → take l.k l.images ++ with_image l.n page (drop l.k l.images) ≡ with_image l.n page l.images;
  among : is_among l.n (pages_of l.images) ≡ is_among l.n (pages_of (drop l.k l.images));
}
