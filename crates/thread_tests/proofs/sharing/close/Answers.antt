use Rattle.std.proofs.Common.{List, subst}
use Rattle.std.specs.List.{AllByRecursion}
use Rattle.board.specs.Views.{View, IsFrontOf}
use Rattle.thread_tests.proofs.Following.{two_pushed}
use Rattle.thread_tests.proofs.sharing.close.Goals as goal

pub returns-in-Ok-Ok : goal.returns-in-Ok-Ok
returns-in-Ok-Ok g c = record {
  fronts = λ named.
      let closed = c.close-store.ensures named in
      let listed = two_pushed c.push-one.result c.push-other.result _ _ _ _ _ _ _ c.new-passes.ensures.items c.push-one.ensures.items c.push-other.ensures.items c.in-Ok-Ok.is-0 c.in-Ok-Ok.is-1 in
      let fronts = subst (λ (vs : List View). AllByRecursion (IsFrontOf closed.0) vs) listed closed.2 in
      (closed.0, closed.1, fronts.0, fronts.1.0);
}
