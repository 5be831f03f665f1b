use Rattle.std.proofs.Common.{◌<◌, sym, subst}
use Rattle.tsb_walk.specs.Shown.{keys_at}
use Rattle.version_model.specs.Pages.{CurrentLeaf}
use Rattle.tsb_walk.proofs.PageWalking.{decoded_here}
use Rattle.tsb_walk.proofs.page_looks.found_here.Goals as goal

pub returns-in-Ok-clause-found : goal.returns-in-Ok-clause-found
returns-in-Ok-clause-found g c = λ start shown shows versions represents_node.
    let at = c.in-Some.ensures.shown start shown (c.bring.ensures.same.shown start shown shows) (subst (λ n. c.args.current.now.page < n) (sym c.bring.ensures.same.homes) c.in_ok-bring.ensures.inside) in
    c.in-Ok.ensures.found versions (decoded_here shown c.args.current.now.page c.in-Some.page.now (CurrentLeaf (keys_at c.args.column.now) c.args.current.now.start versions) at represents_node)

pub returns-in-Err-clause-refused : goal.returns-in-Err-clause-refused
returns-in-Err-clause-refused g c = c.leaf_refusal.ensures.refused (g.P.Pages.down c.args.pages.now)
