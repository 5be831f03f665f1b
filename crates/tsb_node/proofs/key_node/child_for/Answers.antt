use Rattle.std.proofs.Common.{arith, ◌≡◌, ◌∙◌, ◌+◌, ◌*◌, ℕ, List, drop, ap, subst}
use Rattle.tsb_node.specs.inner.Fields.{number_in}
use Rattle.tsb_node.specs.inner.ChildReading.{IsChildBefore}
use Rattle.tsb_node.specs.inner.Reading.{area}
use Rattle.tsb_node.proofs.KeyNodeLaws.{some_child, under_next, under_last}
use Rattle.tsb_node.proofs.key_node.child_for.Goals as goal

pub returns-then-count-eq0 : goal.returns-then-count-eq0
returns-then-count-eq0 c = record { under = λ node is within. absurd (omega (arith, (some_child node c.args.octets.now c.number2-count.result is.begins c.number2-count.ensures.number).0, c.if-count-eq0.true)) }

pub returns-then-count-gt-CHILDREN : goal.returns-then-count-gt-CHILDREN
returns-then-count-gt-CHILDREN c = record { under = λ node is within. absurd (omega (arith, (some_child node c.args.octets.now c.number2-count.result is.begins c.number2-count.ensures.number).1, c.if-count-gt-CHILDREN.true)) }

pub returns-then-at-count : goal.returns-then-at-count
returns-then-at-count c =
    let there : c.split_at-2.result.1.now ≡ area c.args.octets.now = c.split_at-2.ensures.back ∙ ap (drop 120) c.split_at.ensures.front in
    let at = c.child_before-at.result in
    record {
      under = λ node is within. under_last node c.args.octets.now c.number2-count.result c.args.key at c.key_at-low.result c.number8-page.result is.begins within c.number2-count.ensures.number
          (subst (λ (t : List ℕ). IsChildBefore c.number2-count.result t c.args.key at) there c.child_before-at.ensures.before)
          (c.key_at-low.ensures.number ∙ ap (number_in 40 (48 * at)) there) (c.number8-page.ensures.number ∙ ap (number_in 8 (48 * at + 40)) there)
          c.high_at-high.result c.if-at-count.true c.high_at-high.ensures.encoded c.high_at-high.ensures.apart;
    }

pub returns : goal.returns
returns c =
    let there : c.split_at-2.result.1.now ≡ area c.args.octets.now = c.split_at-2.ensures.back ∙ ap (drop 120) c.split_at.ensures.front in
    let at = c.child_before-at.result in
    record {
      under = λ node is within. under_next node c.args.octets.now c.number2-count.result c.args.key at c.key_at-low.result c.number8-page.result is.begins within c.number2-count.ensures.number
          (subst (λ (t : List ℕ). IsChildBefore c.number2-count.result t c.args.key at) there c.child_before-at.ensures.before)
          (c.key_at-low.ensures.number ∙ ap (number_in 40 (48 * at)) there) (c.number8-page.ensures.number ∙ ap (number_in 8 (48 * at + 40)) there)
          c.key_at.result c.if-at-count.false (c.key_at.ensures.number ∙ ap (number_in 40 (48 * at + 48)) there);
    }
