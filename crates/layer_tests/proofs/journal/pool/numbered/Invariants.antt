use Rattle.page_journal.specs.Layout.{pages_of}
use Rattle.page_journal.specs.Recovers.{AreBelow, AreDistinct}
use Rattle.layer_tests.proofs.journal.pool.numbered.Given as goal

abbrev pub invariant-loop-n : goal.invariant-loop-n
invariant-loop-n l = AreBelow l.n (pages_of l.images.items) × AreDistinct (pages_of l.images.items)
