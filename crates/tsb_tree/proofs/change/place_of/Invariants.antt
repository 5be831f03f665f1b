use Rattle.std.proofs.Common.{◌≡◌, ◌++◌, ℕ, List, take, drop}
use Rattle.page_tx.specs.inner.Placing.{with_image}
use Rattle.tsb_tree.proofs.change.place_of.Given as goal

abbrev pub invariant-loop-k : goal.invariant-loop-k
invariant-loop-k l = (page : List ℕ) → take l.k l.images ++ with_image l.n page (drop l.k l.images) ≡ with_image l.n page l.images
