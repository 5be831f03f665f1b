use Rattle.std.proofs.Common.{◌≡◌, ◌∙◌, ap, refl, sym, subst}
use Rattle.std.proofs.lemmas.Bool.{eq-eqb}
use Rattle.version_model.specs.declared.bounds.Bounds.{Bounds}
use Rattle.tsb_node.specs.Leaves.{BeginsAsLeaf}
use Rattle.tsb_node.specs.Views.{keys_between}
use Rattle.tsb_node.proofs.api.Pages.{leaf_begins}
use Rattle.tsb_walk.specs.Shown.{keys_at}
use Rattle.tsb_walk.proofs.OnePage.{decoded_leaf_page}
use Rattle.tsb_walk.proofs.page_steps.is_current_leaf.Goals as goal

pub returns-then-eq : goal.returns-then-eq
returns-then-eq c = λ versions represents_node.
    let decoded = decoded_leaf_page c.args.page.now _ represents_node (keys_at c.args.column.now) c.args.start versions refl in
    let head = c.leaf_head.ensures.leaf decoded.leaf (subst (BeginsAsLeaf decoded.leaf) (sym c.octets.ensures.value) (leaf_begins decoded.leaf c.args.page.now decoded.page)) in
    let bounds : c.in-Ok.bounds ≡ decoded.leaf.bounds = cc (c.in-Ok.is, head) in
    c.are_its_keys.ensures.1 (ap keys_between bounds ∙ decoded.keys_are)

pub returns-else-eq : goal.returns-else-eq
returns-else-eq c = λ versions represents_node.
    let decoded = decoded_leaf_page c.args.page.now _ represents_node (keys_at c.args.column.now) c.args.start versions refl in
    let head = c.leaf_head.ensures.leaf decoded.leaf (subst (BeginsAsLeaf decoded.leaf) (sym c.octets.ensures.value) (leaf_begins decoded.leaf c.args.page.now decoded.page)) in
    let bounds : c.in-Ok.bounds ≡ decoded.leaf.bounds = cc (c.in-Ok.is, head) in
    let same = eq-eqb c.in-Ok.bounds.start c.args.start (ap (λ (b : Bounds). b.start) bounds ∙ decoded.start_is) in
    absurd (cc (c.eq.ensures, same, c.if-eq.false))

pub returns-in-Err : goal.returns-in-Err
returns-in-Err c = λ versions represents_node.
    let decoded = decoded_leaf_page c.args.page.now _ represents_node (keys_at c.args.column.now) c.args.start versions refl in
    let head = c.leaf_head.ensures.leaf decoded.leaf (subst (BeginsAsLeaf decoded.leaf) (sym c.octets.ensures.value) (leaf_begins decoded.leaf c.args.page.now decoded.page)) in
    absurd (cc (c.in-Err.is, head))
