use Rattle.std.proofs.Common.{◌<◌, sym, subst}
use Rattle.tsb_walk.specs.Shown.{keys_at}
use Rattle.version_model.specs.Pages.{ColumnNode}
use Rattle.tsb_walk.proofs.PageWalking.{decoded_here}
use Rattle.tsb_runs.proofs.leaves.column_spot.Goals as goal

pub returns-in-Some-spot_in-clause-spot : goal.returns-in-Some-spot_in-clause-spot
returns-in-Some-spot_in-clause-spot g c = λ start shown shows parts begun current represents_node.
    let at = c.in-Some.ensures.shown start shown (c.bring.ensures.same.shown start shown shows) (subst (λ n. c.args.column.now.page < n) (sym c.bring.ensures.same.homes) c.in_ok-bring.ensures.inside) in
    c.in-Some-spot_in.ensures.spot parts begun current (decoded_here shown c.args.column.now.page c.in-Some.page.now (ColumnNode (keys_at c.args.column.now) parts begun current) at represents_node)
