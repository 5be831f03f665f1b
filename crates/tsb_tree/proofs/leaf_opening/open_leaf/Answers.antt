use Rattle.tsb_tree.proofs.Columns.{column_shown}
use Rattle.tsb_tree.proofs.Growing.{not_back}
use Rattle.tsb_tree.proofs.OpenLeaves.{first_represents, way_of, way_represents}
use Rattle.tsb_tree.proofs.leaf_opening.open_leaf.Goals as goal

pub returns-clause-leaf : goal.returns-clause-leaf
returns-clause-leaf g c start shown s all shows are has later =
    let root = c.root-root in
    let place = c.args.place in
    let column = c.in_ok-column.column in
    let stamp = c.args.entry.now.stamp in
    let stands = first_represents s all place.root place.level place.least root.result root.ensures.page root.ensures.level root.ensures.keys has in
    let way = way_of shown s all root.result are stands c.args.entry.now.key column (c.in_ok-column.ensures.way start shown shows) in
    let here = way_represents shown s all root.result are stands column way in
    let at = column_shown s all column shown c.in_ok-column.ensures.level are here stamp (not_back s all place.root place.level place.least stamp has later).above in
    record {
      first = root.result;
      page_is = root.ensures.page;
      keys_are = root.ensures.keys;
      way = way;
      lowest = c.in_ok-column.ensures.level;
      of = c.in_ok-leaf.ensures.leaf start shown (c.in_ok-column.ensures.reads.shown start shown shows) at;
    }
