use Rattle.std.proofs.Common.{◌≡◌, ◌∙◌, sym, subst}
use Rattle.tsb_node.specs.Leaves.{BeginsAsLeaf}
use Rattle.tsb_node.proofs.OneNode.{leaf_page}
use Rattle.tsb_node.proofs.leaf.push_other.Goals as goal

pub returns-in-Ok-true-clause-pushed : goal.returns-in-Ok-true-clause-pushed
returns-in-Ok-true-clause-pushed c = λ leaf is within above.
    let same : c.copy_from_slice.new.self ≡ c.args.page.now = c.copy_from_slice.ensures.after ∙ c.octets.ensures.value in
    let begins = subst (BeginsAsLeaf leaf) (sym same) (leaf_page leaf c.args.page.now is) in
    rw c.in-Ok-true.field-0-test at (c.in-Ok-true.ensures.pushed leaf begins is.current within above)

pub returns-in-Ok-false-clause-pushed : goal.returns-in-Ok-false-clause-pushed
returns-in-Ok-false-clause-pushed c = λ leaf is within above.
    let same : c.copy_from_slice.new.self ≡ c.args.page.now = c.copy_from_slice.ensures.after ∙ c.octets.ensures.value in
    let begins = subst (BeginsAsLeaf leaf) (sym same) (leaf_page leaf c.args.page.now is) in
    rw c.in-Ok-false.field-0-test at (c.in-Ok-false.ensures.pushed leaf begins is.current within above)

pub returns-in-Err-clause-pushed : goal.returns-in-Err-clause-pushed
returns-in-Err-clause-pushed c = λ leaf is within above.
    let same : c.copy_from_slice.new.self ≡ c.args.page.now = c.copy_from_slice.ensures.after ∙ c.octets.ensures.value in
    let begins = subst (BeginsAsLeaf leaf) (sym same) (leaf_page leaf c.args.page.now is) in
    c.in-Err.ensures.pushed leaf begins is.current within above
