use Rattle.std.proofs.Common.{◌≡◌, ◌≤◌, length}
use Rattle.std.specs.Vec.{vec_capacity}
use Rattle.std.specs.Vec.Iter.{into_iter_items}
use Rattle.page_tx.specs.inner.Placing.{with_images}
use Rattle.page_tx.proofs.images.lay_all.Given as goal

abbrev pub invariant-loop-n : goal.invariant-loop-n
invariant-loop-n l = record {
  capacity : length (with_images l.fn.images.items l.fn.held.items) ≤ vec_capacity l.held;
  items : with_images (into_iter_items l.n-iterator) l.held.items ≡ with_images l.fn.images.items l.fn.held.items;
}
