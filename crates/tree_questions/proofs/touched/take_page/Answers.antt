use Rattle.std.proofs.Common.{List, refl, sym, subst}
use Rattle.tsb_node.specs.declared.leaf_part.ReadFault.TheVariants.{NotANode}
use Rattle.tsb_node.specs.Leaves.{BeginsAsLeaf}
use Rattle.version_model.specs.Pages.{current_range}
use Rattle.version_model.specs.LeafVersions.{LeafRepresents}
use Rattle.version_model.specs.Versions.{Version}
use Rattle.tsb_walk.specs.Shown.{keys_at}
use Rattle.tsb_walk.proofs.OneLeaf.{begun_leaf}
use Rattle.tree_questions.proofs.TouchedEntries.{on_ok}
use Rattle.tree_questions.proofs.touched.take_page.Goals as goal

pub returns-then-not-is_current_leaf-clause-none : goal.returns-then-not-is_current_leaf-clause-none
returns-then-not-is_current_leaf-clause-none c = λ e versions represents_node. absurd (cc (c.is_current_leaf.ensures versions represents_node, c.if-not-is_current_leaf.true))

pub returns-then-not-is_current_leaf-clause-gathered : goal.returns-then-not-is_current_leaf-clause-gathered
returns-then-not-is_current_leaf-clause-gathered c = λ all versions first represents_node shows point begun onward so. absurd (cc (c.is_current_leaf.ensures versions represents_node, c.if-not-is_current_leaf.true))

pub returns-clause-gathered : goal.returns-clause-gathered
returns-clause-gathered c = λ all versions first represents_node shows point begun onward so.
    let column = c.args.column.now in
    let leaf = begun_leaf c.args.page.now _ represents_node (keys_at column) c.args.leaf.now.start versions refl in
    let begins = subst (BeginsAsLeaf leaf.leaf) (sym c.octets.ensures.value) leaf.begins in
    let r = current_range (keys_at column) c.args.leaf.now.start in
    on_ok c.take_leaf.result _ _ (λ h. h all r leaf.leaf first begins (subst (λ (vs : List Version). LeafRepresents all r vs) (sym leaf.same) shows) refl refl point begun onward so) c.take_leaf.ensures.gathered

pub returns-clause-none : goal.returns-clause-none
returns-clause-none c = λ e versions represents_node.
    let leaf = begun_leaf c.args.page.now _ represents_node (keys_at c.args.column.now) c.args.leaf.now.start versions refl in
    c.take_leaf.ensures.leaf leaf.leaf (subst (BeginsAsLeaf leaf.leaf) (sym c.octets.ensures.value) leaf.begins) e
