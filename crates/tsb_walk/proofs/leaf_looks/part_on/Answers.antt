use Rattle.std.proofs.Common.{filter, refl, sym, ◌∙◌, ap, subst}
use Rattle.version_model.specs.Ranges.{stamp_end}
use Rattle.version_model.specs.Looks.{is_of}
use Rattle.tsb_node.specs.Leaves.{BeginsAsLeaf}
use Rattle.tsb_walk.specs.Shown.{keys_at}
use Rattle.tsb_walk.proofs.OneLeaf.{begun_leaf}
use Rattle.tsb_walk.proofs.Ons.{if_ok}
use Rattle.tsb_walk.proofs.leaf_looks.part_on.Goals as goal

pub returns-then-not-is_current_leaf-clause-none : goal.returns-then-not-is_current_leaf-clause-none
returns-then-not-is_current_leaf-clause-none c = λ e versions represents_node. absurd (cc (c.is_current_leaf.ensures versions represents_node, c.if-not-is_current_leaf.true))

pub returns-clause-part : goal.returns-clause-part
returns-clause-part c = λ versions represents_node.
    let leaf = begun_leaf c.args.page.now _ represents_node (keys_at c.args.column.now) c.args.start versions refl in
    let begins = subst (BeginsAsLeaf leaf.leaf) (sym c.octets.ensures.value) leaf.begins in
    if_ok c.part_in.result _ _ (λ part is. is leaf.leaf begins ∙ ap (filter (is_of c.args.key c.args.from stamp_end)) leaf.same) c.part_in.ensures.just

pub returns-clause-none : goal.returns-clause-none
returns-clause-none c = λ e versions represents_node.
    let leaf = begun_leaf c.args.page.now _ represents_node (keys_at c.args.column.now) c.args.start versions refl in
    c.part_in.ensures.leaf leaf.leaf (subst (BeginsAsLeaf leaf.leaf) (sym c.octets.ensures.value) leaf.begins) e
