use Rattle.std.proofs.Common.{◌∙◌, ℕ, List, length, slice_index, ap, sym, subst, refl}
use Rattle.tsb_node.specs.inner.Fresh.{IsFreshLeafPage}
use Rattle.tsb_node.specs.Leaves.{BeginsAsLeaf}
use Rattle.tsb_node.proofs.Leaves.{begins_page}
use Rattle.tsb_node.proofs.Laying.{laid_is, laid_all}
use Rattle.tsb_node.proofs.OneNode.{leaf_page}
use Rattle.tsb_node.proofs.WrittenNow.{fresh_now}
use Rattle.tsb_node.proofs.MomentLaws.{leaf_unit}
use Rattle.tsb_node.proofs.leaf_sealing.copy_leaf.Goals as goal

pub returns-then-is_now : goal.returns-then-is_now
returns-then-is_now c = λ leaf is.
    let p = c.args.page.now in
    let old = c.args.block.now in
    let o = c.octets-octets in
    let unit = sym (leaf_unit is.as_written p (begins_page is.as_written p is.page)) ∙ ap (λ (t : List ℕ). slice_index t 1) (sym o.ensures.value) ∙ c.if-is_now.ensures.0 refl in
    let e = laid_is 0 o.result.now old c.put.new.self c.put.ensures ∙ laid_all o.result.now old (sym (ap length c.octets-old.ensures.value) ∙ c.octets-old.ensures.size ∙ sym o.ensures.size) ∙ o.ensures.value in
    subst (IsFreshLeafPage leaf) (sym e) (fresh_now leaf p is unit)

pub returns-in-Ok : goal.returns-in-Ok
returns-in-Ok c = λ leaf is. c.in-Ok.ensures.whole leaf (subst (BeginsAsLeaf leaf) (sym c.octets-octets.ensures.value) (leaf_page leaf c.args.page.now is)) is.current

pub returns-in-Err : goal.returns-in-Err
returns-in-Err c = λ leaf is. absurd (c.in-Err.ensures.whole leaf (subst (BeginsAsLeaf leaf) (sym c.octets-octets.ensures.value) (leaf_page leaf c.args.page.now is)) is.current)
