use Rattle.std.proofs.Common.{Option, IfSome, subst}
use Rattle.tsb_runs.specs.declared.leaves.LeafAt.{LeafAt}
use Rattle.tsb_runs.specs.inner.LeavesAt.{IsLeafAt}
use Rattle.tsb_runs.proofs.Representing.{run_shown}
use Rattle.tsb_runs.proofs.leaf_runs.next_run.Goals as goal

pub returns-clause-run : goal.returns-clause-run
returns-clause-run g c = λ start shown shows s all st.
    let l = subst (λ (o : Option LeafAt). IfSome o (IsLeafAt shown all c.args.from c.args.stamp)) c.in-Some.is (c.in_ok-at.ensures.leaf start shown shows s all st) in
    run_shown shown all c.args.from c.args.stamp c.in-Some.at c.run_here.result l (c.run_here.ensures.run start shown (c.leaf_at.ensures.same.shown start shown shows) l.versions l.represents_node) c.run_here.ensures.high

pub returns-clause-blames : goal.returns-clause-blames
returns-clause-blames g c = λ start shown shows s all st page e.
    let l = subst (λ (o : Option LeafAt). IfSome o (IsLeafAt shown all c.args.from c.args.stamp)) c.in-Some.is (c.in_ok-at.ensures.leaf start shown shows s all st) in
    c.run_here.ensures.bad start shown (c.leaf_at.ensures.same.shown start shown shows) page e l.versions l.represents_node
