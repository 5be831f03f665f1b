use Rattle.std.proofs.Common.{◌<◌, sym, subst}
use Rattle.tsb_walk.specs.Shown.{keys_at}
use Rattle.version_model.specs.Pages.{CurrentLeaf}
use Rattle.tsb_walk.proofs.PageWalking.{decoded_here}
use Rattle.tree_questions.proofs.touched.take_current.Goals as goal

pub returns-in-Ok-clause-gathered : goal.returns-in-Ok-clause-gathered
returns-in-Ok-clause-gathered g c = λ start shown shows all versions first represents_node shows_all point begun onward so.
    let at = c.in-Some.ensures.shown start shown (c.bring.ensures.same.shown start shown shows) (subst (λ n. c.args.leaf.now.page < n) (sym c.bring.ensures.same.homes) c.in_ok-bring.ensures.inside) in
    c.in-Ok.ensures.gathered all versions first (decoded_here shown c.args.leaf.now.page c.in-Some.page.now (CurrentLeaf (keys_at c.args.column.now) c.args.leaf.now.start versions) at represents_node) shows_all point begun onward so

pub returns-in-Err-clause-refused : goal.returns-in-Err-clause-refused
returns-in-Err-clause-refused g c = c.leaf_refusal.ensures.refused (g.P.Pages.down c.args.pages.now)
