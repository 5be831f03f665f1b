use Rattle.std.proofs.Common.{◌+◌, ◌≤◌, ℕ, List, [], ◌∷◌, ap, ◌∙◌, sym, subst, arith}
use Rattle.page_journal.specs.Layout.{pages_of}
use Rattle.page_journal.specs.Recovers.{AreBelow, AreDistinct}
use Rattle.page_journal.proofs.api.Numbering.{pages-push, below-push, distinct-push}
use Rattle.layer_tests.proofs.journal.pool.numbered.Goals as goal

pub loop-n-preserved : goal.loop-n-preserved
loop-n-preserved c =
    let pages = ap pages_of c.in_ok-push.ensures.items ∙ pages-push c.loop-n.images.items _ in (
      subst (AreBelow (c.loop-n.n + 1)) (sym pages) (below-push c.loop-n.n (pages_of c.loop-n.images.items) c.loop-n.invariant.0),
      subst AreDistinct (sym pages) (distinct-push c.loop-n.n (pages_of c.loop-n.images.items) c.loop-n.invariant.0 c.loop-n.invariant.1),
    )

below_all : (n homes : ℕ) (ns : List ℕ) → n ≤ homes → AreBelow n ns → AreBelow homes ns
below_all n homes [] le below = tt
below_all n homes (m ∷ ns) le below = ((let lt = below.0 in omega (arith, lt, le)), below_all n homes ns le below.1)
