use Rattle.std.proofs.Common.{◌≡◌, ◌<◌, Some, slice_get, arith}
use Rattle.tsb_tree.proofs.Columns.{decoded_at}
use Rattle.tsb_tree.proofs.current_leaf.current_of.Goals as goal

pub returns-clause-honest : goal.returns-clause-honest
returns-clause-honest g c start shown shows is =
    let inside : c.args.place.now.page < g.P.Pages.homes c.see.new.pages = omega (arith, c.in_ok-see.ensures.inside, c.in_ok-see.ensures.reads.homes) in
    let at : slice_get shown c.args.place.now.page ≡ Some c.in-Some.page.now = c.in-Some.ensures.shown start shown (c.in_ok-see.ensures.reads.shown start shown shows) inside in
    c.current_in.ensures.honest is.parts is.start is.current is.next (record { represents_node = decoded_at shown c.args.place.now.page c.in-Some.page.now _ at is.column; are_parts = is.are_parts; before = is.before })

pub returns-clause-current : goal.returns-clause-current
returns-clause-current g c start shown shows is =
    let inside : c.args.place.now.page < g.P.Pages.homes c.see.new.pages = omega (arith, c.in_ok-see.ensures.inside, c.in_ok-see.ensures.reads.homes) in
    let at : slice_get shown c.args.place.now.page ≡ Some c.in-Some.page.now = c.in-Some.ensures.shown start shown (c.in_ok-see.ensures.reads.shown start shown shows) inside in
    c.current_in.ensures.current is.parts is.start is.current is.next (record { represents_node = decoded_at shown c.args.place.now.page c.in-Some.page.now _ at is.column; are_parts = is.are_parts; before = is.before })
