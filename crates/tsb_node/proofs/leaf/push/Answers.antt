use Rattle.std.proofs.Common.{◌∙◌, ℕ, List, slice_index, ap, sym, refl}
use Rattle.tsb_node.proofs.Leaves.{begins_page}
use Rattle.tsb_node.proofs.WrittenNow.{fresh_now}
use Rattle.tsb_node.proofs.MomentLaws.{leaf_unit}
use Rattle.tsb_node.proofs.leaf.push.Goals as goal

pub returns-then-is_now-clause-pushed : goal.returns-then-is_now-clause-pushed
returns-then-is_now-clause-pushed c = λ leaf is within above.
    let p = c.args.page.now in
    let unit = sym (leaf_unit is.as_written p (begins_page is.as_written p is.page)) ∙ ap (λ (t : List ℕ). slice_index t 1) (sym c.octets.ensures.value) ∙ c.if-is_now.ensures.0 refl in
    c.push_written.ensures.pushed leaf (fresh_now leaf p is unit) within above
