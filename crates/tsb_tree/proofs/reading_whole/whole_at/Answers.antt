use Rattle.std.proofs.Common.{◌≡◌, ◌<◌, Some, slice_get, arith}
use Rattle.tsb_tree.proofs.Columns.{decoded_at, ok_map}
use Rattle.tsb_tree.proofs.reading_whole.whole_at.Goals as goal

pub returns-clause-column : goal.returns-clause-column
returns-clause-column g c start shown shows =
    let inside : c.args.place.now.page < g.P.Pages.homes c.see.new.pages = omega (arith, c.in_ok-see.ensures.inside, c.in_ok-see.ensures.reads.homes) in
    let at : slice_get shown c.args.place.now.page ≡ Some c.in-Some.column.now = c.in-Some.ensures.shown start shown (c.in_ok-see.ensures.reads.shown start shown shows) inside in
    ok_map _ _ c.whole_in.result (λ whole represents_node. record { octets = c.in-Some.column.now; at = at; represents_node = represents_node }) c.whole_in.ensures.column

pub returns-clause-honest : goal.returns-clause-honest
returns-clause-honest g c start shown parts since versions shows column leaf =
    let inside : c.args.place.now.page < g.P.Pages.homes c.see.new.pages = omega (arith, c.in_ok-see.ensures.inside, c.in_ok-see.ensures.reads.homes) in
    let at : slice_get shown c.args.place.now.page ≡ Some c.in-Some.column.now = c.in-Some.ensures.shown start shown (c.in_ok-see.ensures.reads.shown start shown shows) inside in
    c.whole_in.ensures.honest parts since versions (decoded_at shown c.args.place.now.page c.in-Some.column.now _ at column) leaf

pub returns-clause-refused : goal.returns-clause-refused
returns-clause-refused g c = c.whole_in.ensures.refused (g.P.Pages.down c.args.pages.now)
