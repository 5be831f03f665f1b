use Rattle.std.proofs.Common.{sym, ap, ◌∙◌, lit<, None, Some}
use Rattle.std.proofs.lemmas.List.{append_cancel_right}
use Rattle.std.proofs.lemmas.Str.Pattern.{strip_prefix_char, strip_suffix_char}
use Rattle.route_text.specs.declared.step.Step.TheVariants.{Number, Set}
use Rattle.route_text.specs.RouteText.{numbers_text}
use Rattle.route_text.proofs.Outcomes.{ok_or_err, ok_same, reads_ok, reads_err, reads_passed}
use Rattle.route_text.proofs.StepWords.{number_word, set_word}
use Rattle.route_text.proofs.step.read_step.Goals as goal

pub returns-in_err-read_u32-clause-only : goal.returns-in_err-read_u32-clause-only
returns-in_err-read_u32-clause-only c step valid e =
    let n = number_word c.args.word.now step (strip_prefix_char 123 c.args.word.now None c.in_default.ensures.cases (lit< tt)) valid e in
    absurd (ok_or_err c.read_u32.result n.number _ (c.read_u32.ensures.only n.number n.fits n.text) c.in_err-read_u32.was)

pub returns-in_default-clause-only : goal.returns-in_default-clause-only
returns-in_default-clause-only c step valid e =
    let n = number_word c.args.word.now step (strip_prefix_char 123 c.args.word.now None c.in_default.ensures.cases (lit< tt)) valid e in
    let same = ok_same c.read_u32.result n.number c.in_ok-read_u32.field-0 (c.read_u32.ensures.only n.number n.fits n.text) c.in_ok-read_u32.was in
    sym (n.step ∙ ap Number same)

pub returns-in_default-strip_suffix-clause-only : goal.returns-in_default-strip_suffix-clause-only
returns-in_default-strip_suffix-clause-only c step valid e =
    let s = set_word c.args.word.now c.in-Some.inner.now step (strip_prefix_char 123 c.args.word.now (Some c.in-Some.inner) c.in-Some.ensures.cases (lit< tt)) valid e in
    absurd (strip_suffix_char 125 c.in-Some.inner.now None c.in_default-strip_suffix.ensures.cases (lit< tt) (numbers_text 44 s.numbers) s.text)

pub returns-in_err-read_set-clause-only : goal.returns-in_err-read_set-clause-only
returns-in_err-read_set-clause-only c step valid e =
    let s = set_word c.args.word.now c.in-Some.inner.now step (strip_prefix_char 123 c.args.word.now (Some c.in-Some.inner) c.in-Some.ensures.cases (lit< tt)) valid e in
    let inner = append_cancel_right _ _ _ (sym (strip_suffix_char 125 c.in-Some.inner.now (Some c.in-Some-strip_suffix.inner) c.in-Some-strip_suffix.ensures.cases (lit< tt)) ∙ s.text) in
    let memory = reads_err (λ x. x) c.read_set.result s.numbers _ c.in_err-read_set.was (c.read_set.ensures.only s.numbers s.valid inner) in
    reads_passed (λ x. x) c.from_residual-in_err-read_set.result step _ c.from_residual-in_err-read_set.ensures.1 memory

pub returns-clause-only : goal.returns-clause-only
returns-clause-only c step valid e =
    let s = set_word c.args.word.now c.in-Some.inner.now step (strip_prefix_char 123 c.args.word.now (Some c.in-Some.inner) c.in-Some.ensures.cases (lit< tt)) valid e in
    let inner = append_cancel_right _ _ _ (sym (strip_suffix_char 125 c.in-Some.inner.now (Some c.in-Some-strip_suffix.inner) c.in-Some-strip_suffix.ensures.cases (lit< tt)) ∙ s.text) in
    let same = reads_ok (λ x. x) c.read_set.result s.numbers _ c.in_ok-read_set.was (c.read_set.ensures.only s.numbers s.valid inner) in
    ap Set same ∙ sym s.step
