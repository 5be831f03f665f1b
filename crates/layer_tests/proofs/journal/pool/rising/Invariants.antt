use Rattle.page_journal.specs.Layout.{pages_of}
use Rattle.page_journal.specs.Recovers.{AreBelow}
use Rattle.layer_tests.proofs.journal.pool.rising.Given as goal

abbrev pub invariant-loop-n : goal.invariant-loop-n
invariant-loop-n l = AreBelow l.n (pages_of l.images.items)
