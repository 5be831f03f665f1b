use Rattle.std.proofs.Common.{List, [], ◌∷◌, ◌++◌, subst, sym, ap, ◌∙◌, arith, rules, ⊎_elim}
use Rattle.route_model.specs.declared.attribute.Attribute.{Attribute}
use Rattle.route_model.specs.Encoding.{IsAttribute}
use Rattle.route_text.specs.Octets.{Lacks}
use Rattle.route_text.specs.RouteText.{attribute_text}
use Rattle.route_text.proofs.Fields.{is_nil, not_nil, attributes_none, attributes_some, Lacks-attribute_text}
use Rattle.route_text.proofs.Outcomes.{reads_ok, reads_err, reads_passed}
use Rattle.route_text.proofs.Separated.{Left, left_begin, left_word, left_last, AllByRecursion-push}
use Rattle.route_text.proofs.attribute_reading.read_each_attribute.Goals as goal

no_space : (a : Attribute) → IsAttribute a → Lacks 32 (attribute_text a)
no_space = Lacks-attribute_text 32 (λ d. omega arith) (λ h. omega arith) (λ d. ⊎_elim (λ r. omega arith) (λ r. omega arith) d)

pub returns-then-is_empty-clause-only : goal.returns-then-is_empty-clause-only
returns-then-is_empty-clause-only c all valid e =
    c.new-items.ensures.items ∙ sym (attributes_none c.args.text.now all (is_nil c.args.text.now _ c.is_empty.ensures c.if-is_empty.true) valid e)

pub loop-word-init : goal.loop-word-init
loop-word-init c = record {
  utf8 = c.utf8.text;
  left = λ all some valid e. subst (λ (t : List Attribute). Left 32 attribute_text IsAttribute all t c.args.text.now) (sym c.new-items.ensures.items) (left_begin 32 attribute_text IsAttribute all c.args.text.now some valid e);
  valid = rw c.new-items.ensures.items tt;
}

pub returns-in_err-read_attribute-clause-only : goal.returns-in_err-read_attribute-clause-only
returns-in_err-read_attribute-clause-only c all valid e =
    let some = attributes_some c.args.text.now all (not_nil c.args.text.now _ c.is_empty.ensures c.if-is_empty.false) e in
    let left = c.loop-word.invariant.left all some valid e in
    let word = left_word 32 attribute_text IsAttribute no_space all _ _ _ _ left c.in-Some.ensures.parts c.in-Some.ensures.first in
    let memory = reads_err (λ x. x) c.read_attribute.result left.next _ c.in_err-read_attribute.was (c.read_attribute.ensures.only left.next left.here word.0) in
    reads_passed _ c.from_residual.result all _ c.from_residual.ensures.1 memory

pub loop-word-preserved : goal.loop-word-preserved
loop-word-preserved c = record {
  utf8 = search rules;
  left = λ all some valid e.
      let left = c.loop-word.invariant.left all some valid e in
      let word = left_word 32 attribute_text IsAttribute no_space all _ _ _ _ left c.in-Some.ensures.parts c.in-Some.ensures.first in
      let same = reads_ok (λ x. x) c.read_attribute.result left.next c.in_ok-read_attribute.field-0 c.in_ok-read_attribute.was (c.read_attribute.ensures.only left.next left.here word.0) in
      let items = ap (λ a. c.loop-word.items.items ++ a ∷ []) (sym same) ∙ sym c.in_ok-push.ensures.items in
      subst (λ (t : List Attribute). Left 32 attribute_text IsAttribute all t c.in-Some.after.now) items word.1;
  valid = rw c.in_ok-push.ensures.items (AllByRecursion-push IsAttribute c.loop-word.items.items c.in_ok-read_attribute.field-0 c.loop-word.invariant.valid c.in_ok-read_attribute.ensures.valid);
}

pub returns-in_err-read_attribute-2-clause-only : goal.returns-in_err-read_attribute-2-clause-only
returns-in_err-read_attribute-2-clause-only c all valid e =
    let some = attributes_some c.args.text.now all (not_nil c.args.text.now _ c.is_empty.ensures c.if-is_empty.false) e in
    let left = c.loop-word.invariant.left all some valid e in
    let last = left_last 32 attribute_text IsAttribute all _ _ left c.in_default.ensures.none in
    let memory = reads_err (λ x. x) c.read_attribute-2.result left.next _ c.in_err-read_attribute-2.was (c.read_attribute-2.ensures.only left.next left.here last.0) in
    reads_passed _ c.from_residual-in_err-read_attribute-2.result all _ c.from_residual-in_err-read_attribute-2.ensures.1 memory

pub returns-clause-only : goal.returns-clause-only
returns-clause-only c all valid e =
    let some = attributes_some c.args.text.now all (not_nil c.args.text.now _ c.is_empty.ensures c.if-is_empty.false) e in
    let left = c.loop-word.invariant.left all some valid e in
    let last = left_last 32 attribute_text IsAttribute all _ _ left c.in_default.ensures.none in
    let same = reads_ok (λ x. x) c.read_attribute-2.result left.next c.in_ok-read_attribute-2.field-0 c.in_ok-read_attribute-2.was (c.read_attribute-2.ensures.only left.next left.here last.0) in
    c.in_ok-push-2.ensures.items ∙ ap (λ a. c.loop-word.items.items ++ a ∷ []) same ∙ sym last.1
