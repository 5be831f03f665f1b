use Rattle.std.proofs.Common.{List, refl, sym, subst}
use Rattle.version_model.specs.Versions.{Version, Answers}
use Rattle.tsb_node.specs.Leaves.{BeginsAsLeaf}
use Rattle.tsb_walk.specs.Answers.{found_as}
use Rattle.tsb_walk.specs.Shown.{keys_at}
use Rattle.tsb_walk.proofs.OneLeaf.{begun_leaf}
use Rattle.tsb_walk.proofs.Ons.{if_ok}
use Rattle.tsb_walk.proofs.leaf_looks.found_on.Goals as goal

pub returns-then-not-is_current_leaf-clause-none : goal.returns-then-not-is_current_leaf-clause-none
returns-then-not-is_current_leaf-clause-none c = λ e versions represents_node. absurd (cc (c.is_current_leaf.ensures versions represents_node, c.if-not-is_current_leaf.true))

pub returns-clause-found : goal.returns-clause-found
returns-clause-found c = λ versions represents_node.
    let leaf = begun_leaf c.args.page.now _ represents_node (keys_at c.args.column.now) c.args.start versions refl in
    let begins = subst (BeginsAsLeaf leaf.leaf) (sym c.octets.ensures.value) leaf.begins in
    if_ok c.found_in.result _ _ (λ found is. subst (λ (vs : List Version). Answers vs c.args.key c.args.stamp (found_as found)) leaf.same (is leaf.leaf begins)) c.found_in.ensures.found

pub returns-clause-none : goal.returns-clause-none
returns-clause-none c = λ e versions represents_node.
    let leaf = begun_leaf c.args.page.now _ represents_node (keys_at c.args.column.now) c.args.start versions refl in
    c.found_in.ensures.leaf leaf.leaf (subst (BeginsAsLeaf leaf.leaf) (sym c.octets.ensures.value) leaf.begins) e
