use Rattle.std.proofs.Common.{◌<◌, sym, subst}
use Rattle.tsb_walk.specs.Shown.{keys_at}
use Rattle.version_model.specs.Pages.{CurrentLeaf}
use Rattle.tsb_walk.proofs.PageWalking.{decoded_here}
use Rattle.tsb_runs.proofs.leaf_runs.run_here.Goals as goal

pub returns-in-Ok-clause-run : goal.returns-in-Ok-clause-run
returns-in-Ok-clause-run g c = λ start shown shows versions represents_node.
    let at = c.in-Some.ensures.shown start shown (c.bring.ensures.same.shown start shown shows) (subst (λ n. c.args.at.now.leaf.page < n) (sym c.bring.ensures.same.homes) c.in_ok-bring.ensures.inside) in
    c.in-Ok.ensures.run versions (decoded_here shown c.args.at.now.leaf.page c.in-Some.page.now (CurrentLeaf (keys_at c.args.at.now.column) c.args.at.now.leaf.start versions) at represents_node)

pub returns-in-Err-clause-refused : goal.returns-in-Err-clause-refused
returns-in-Err-clause-refused g c = c.refusal_of.ensures.refused (g.P.Pages.down c.args.pages.now)
