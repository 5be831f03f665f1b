use Rattle.std.proofs.Common.{◌+◌, ap, ◌∙◌, sym, subst}
use Rattle.page_journal.specs.Layout.{pages_of}
use Rattle.page_journal.specs.Recovers.{AreBelow}
use Rattle.page_journal.proofs.api.Numbering.{pages-push, below-push}
use Rattle.layer_tests.proofs.journal.pool.rising.Goals as goal

pub loop-n-preserved : goal.loop-n-preserved
loop-n-preserved c =
    let pages = ap pages_of c.in_ok-push.ensures.items ∙ pages-push c.loop-n.images.items _ in
    subst (AreBelow (c.loop-n.n + 1)) (sym pages) (below-push c.loop-n.n (pages_of c.loop-n.images.items) c.loop-n.invariant)
