use Rattle.tsb_walk.specs.Shown.{keys_at}
use Rattle.tsb_tree.proofs.Columns.{past_not}
use Rattle.tsb_tree.proofs.current_leaf.current_in.Goals as goal

pub returns-in-Some-InLeaf-clause-current : goal.returns-in-Some-InLeaf-clause-current
returns-in-Some-InLeaf-clause-current c parts start current next col =
    let spot = rw c.in-Some-InLeaf.field-0-is at (c.in-Some-InLeaf.ensures.spot parts start current col.represents_node) in
    (spot.0, spot.1)

pub returns-in-Some-InPast-clause-honest : goal.returns-in-Some-InPast-clause-honest
returns-in-Some-InPast-clause-honest c parts start current next col =
    past_not c.args.page.now c.args.place.now c.args.entry.now.key c.args.entry.now.stamp _ _ parts start current next c.in-Some-InPast.field-0-is (c.in-Some-InPast.ensures.spot parts start current col.represents_node) col

pub returns-in-None-clause-honest : goal.returns-in-None-clause-honest
returns-in-None-clause-honest c parts start current next col = c.in-None.ensures.none parts start current col.represents_node
