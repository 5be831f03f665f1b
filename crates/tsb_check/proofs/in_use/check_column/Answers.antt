use Rattle.std.proofs.Common.{rules, ◌≡◌, ℕ, Err, sym, subst}
use Rattle.std.proofs.lemmas.List.Elements.{All-from_recursion, recursion_from_All}
use Rattle.tsb_check.specs.Counted.{AreLower}
use Rattle.tsb_check.specs.InUse.{IsColumnUnused, never_burnt, never_tried, page_unused, leaf_unused}
use Rattle.tsb_check.proofs.in_use.check_column.Goals as goal

pub returns-then-not-are_lower-clause-bad : goal.returns-then-not-are_lower-clause-bad
returns-then-not-are_lower-clause-bad c = λ n e.
    let same : c.args.page ≡ n = cc in
    subst (λ (m : ℕ). IsColumnUnused c.args.in_use.now c.args.page c.args.decoded.now.parts.items c.args.decoded.now.current.page m) same
    (never_burnt (λ lower. absurd (cc (c.are_lower.ensures.1 (All-from_recursion _ c.deref.result.now (subst (AreLower c.args.in_use.now.burnt) (sym c.deref.ensures.value) lower)), c.if-not-are_lower.true))))

pub returns-then-not-are_lower-2-clause-bad : goal.returns-then-not-are_lower-2-clause-bad
returns-then-not-are_lower-2-clause-bad c = λ n e.
    let same : c.args.in_use.now.recorded_on ≡ n = cc in
    subst (λ (m : ℕ). IsColumnUnused c.args.in_use.now c.args.page c.args.decoded.now.parts.items c.args.decoded.now.current.page m) same
    (never_tried (λ lower. absurd (cc (c.are_lower-2.ensures.1 (All-from_recursion _ c.deref-2.result.now (subst (AreLower c.args.in_use.now.blocks) (sym c.deref-2.ensures.value) lower)), c.if-not-are_lower-2.true))))

pub returns-in_err-check_page-clause-bad : goal.returns-in_err-check_page-clause-bad
returns-in_err-check_page-clause-bad c = λ n e.
    let is : c.from_residual.result ≡ Err c.in_err-check_page.field-0.0 = search rules in
    let above = c.in_err-check_page.ensures.above in
    let reported = above.0 in
    let same : c.args.in_use.now.recorded_on ≡ n = cc in
    subst (λ (m : ℕ). IsColumnUnused c.args.in_use.now c.args.page c.args.decoded.now.parts.items c.args.decoded.now.current.page m) same (page_unused above.1)

pub returns-in_err-check_page-2-clause-bad : goal.returns-in_err-check_page-2-clause-bad
returns-in_err-check_page-2-clause-bad c = λ n e.
    let is : c.from_residual-in_err-check_page-2.result ≡ Err c.in_err-check_page-2.field-0.0 = search rules in
    let above = c.in_err-check_page-2.ensures.above in
    let reported = above.0 in
    let same : c.args.in_use.now.recorded_on ≡ n = cc in
    subst (λ (m : ℕ). IsColumnUnused c.args.in_use.now c.args.page c.args.decoded.now.parts.items c.args.decoded.now.current.page m) same (leaf_unused above.1)

pub returns-clause-used : goal.returns-clause-used
returns-clause-used c = record {
  page_used = c.in_ok-check_page.ensures.below;
  current_used = c.in_ok-check_page-2.ensures.below;
  tried = subst (AreLower c.args.in_use.now.blocks) c.deref-2.ensures.value (recursion_from_All _ c.deref-2.result.now (c.are_lower-2.ensures.0 (cc c.if-not-are_lower-2.false)));
  burnt = subst (AreLower c.args.in_use.now.burnt) c.deref.ensures.value (recursion_from_All _ c.deref.result.now (c.are_lower.ensures.0 (cc c.if-not-are_lower.false)));
}
