use Rattle.std.proofs.Common.{◌≡◌, ◌<◌, Some, slice_get, arith}
use Rattle.tsb_tree.proofs.Columns.{decoded_at}
use Rattle.tsb_tree.proofs.descent.key_node_at.Goals as goal

pub returns-clause-represents_node : goal.returns-clause-represents_node
returns-clause-represents_node g c start shown level k children shows represents_node =
    let inside : c.args.n < g.P.Pages.homes c.see.new.pages = omega (arith, c.in_ok-see.ensures.inside, c.in_ok-see.ensures.reads.homes) in
    let at : slice_get shown c.args.n ≡ Some c.in-Some.page.now = c.in-Some.ensures.shown start shown (c.in_ok-see.ensures.reads.shown start shown shows) inside in
    c.key_node_in.ensures.represents_node level k children (decoded_at shown c.args.n c.in-Some.page.now _ at represents_node)

pub returns-clause-refused : goal.returns-clause-refused
returns-clause-refused g c = c.key_node_in.ensures.refused (g.P.Pages.down c.args.pages.now)
