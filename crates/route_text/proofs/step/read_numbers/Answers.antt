use Rattle.std.proofs.Common.{ℕ, ◌<◌, ◌^◌, List, [], ◌∷◌, ◌++◌, decimal, subst, sym, ap, ◌∙◌, arith, rules}
use Rattle.route_text.specs.Octets.{Lacks}
use Rattle.route_text.proofs.Numbers.{Lacks-decimal}
use Rattle.route_text.proofs.Outcomes.{ok_or_err, ok_same}
use Rattle.route_text.proofs.Separated.{Left, left_begin, left_word, left_last, AllByRecursion-push}
use Rattle.route_text.proofs.step.read_numbers.Goals as goal

abbrev Fits : ℕ → Type 0
Fits n = n < 2 ^ 32

no_comma : (n : ℕ) → Fits n → Lacks 44 (decimal n)
no_comma n fits = Lacks-decimal 44 n (omega arith) (λ d. omega arith)

pub loop-word-init : goal.loop-word-init
loop-word-init c = record {
  utf8 = c.utf8.text;
  left = λ all some valid e. subst (λ (t : List ℕ). Left 44 decimal Fits all t c.args.text.now) (sym c.new-numbers.ensures.items) (left_begin 44 decimal Fits all c.args.text.now some valid e);
  valid = rw c.new-numbers.ensures.items tt;
}

pub returns-in_err-read_u32-clause-only : goal.returns-in_err-read_u32-clause-only
returns-in_err-read_u32-clause-only c all some valid e =
    let left = c.loop-word.invariant.left all some valid e in
    let word = left_word 44 decimal Fits no_comma all _ _ _ _ left c.in-Some.ensures.parts c.in-Some.ensures.first in
    absurd (ok_or_err c.read_u32.result left.next _ (c.read_u32.ensures.only left.next left.here word.0) c.in_err-read_u32.was)

pub loop-word-preserved : goal.loop-word-preserved
loop-word-preserved c = record {
  utf8 = search rules;
  left = λ all some valid e.
      let left = c.loop-word.invariant.left all some valid e in
      let word = left_word 44 decimal Fits no_comma all _ _ _ _ left c.in-Some.ensures.parts c.in-Some.ensures.first in
      let same = ok_same c.read_u32.result left.next c.in_ok-read_u32.field-0 (c.read_u32.ensures.only left.next left.here word.0) c.in_ok-read_u32.was in
      let items = ap (λ n. c.loop-word.numbers.items ++ n ∷ []) same ∙ sym c.in_ok-push.ensures.items in
      subst (λ (t : List ℕ). Left 44 decimal Fits all t c.in-Some.after.now) items word.1;
  valid = rw c.in_ok-push.ensures.items (AllByRecursion-push Fits c.loop-word.numbers.items c.in_ok-read_u32.field-0 c.loop-word.invariant.valid c.in_ok-read_u32.ensures.fits);
}

pub returns-in_err-read_u32-2-clause-only : goal.returns-in_err-read_u32-2-clause-only
returns-in_err-read_u32-2-clause-only c all some valid e =
    let left = c.loop-word.invariant.left all some valid e in
    let last = left_last 44 decimal Fits all _ _ left c.in_default.ensures.none in
    absurd (ok_or_err c.read_u32-2.result left.next _ (c.read_u32-2.ensures.only left.next left.here last.0) c.in_err-read_u32-2.was)

pub returns-clause-only : goal.returns-clause-only
returns-clause-only c all some valid e =
    let left = c.loop-word.invariant.left all some valid e in
    let last = left_last 44 decimal Fits all _ _ left c.in_default.ensures.none in
    let same = ok_same c.read_u32-2.result left.next c.in_ok-read_u32-2.field-0 (c.read_u32-2.ensures.only left.next left.here last.0) c.in_ok-read_u32-2.was in
    c.in_ok-push-2.ensures.items ∙ sym (last.1 ∙ ap (λ n. c.loop-word.numbers.items ++ n ∷ []) same)
