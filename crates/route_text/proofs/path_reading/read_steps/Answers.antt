use Rattle.std.proofs.Common.{List, [], ◌∷◌, ◌++◌, subst, sym, ap, ◌∙◌, arith, rules}
use Rattle.route_text.specs.declared.step.Step.{Step}
use Rattle.route_text.specs.Octets.{Lacks}
use Rattle.route_text.specs.inner.Steps.{IsStep, step_text, steps, run}
use Rattle.route_text.proofs.NormalPaths.{built_at}
use Rattle.route_text.proofs.Outcomes.{reads_ok, reads_err, reads_passed}
use Rattle.route_text.proofs.PathTexts.{Lacks-step_text}
use Rattle.route_text.proofs.Separated.{Left, left_begin, left_word, left_last}
use Rattle.route_text.proofs.path_reading.read_steps.Goals as goal

no_space : (s : Step) → IsStep s → Lacks 32 (step_text s)
no_space = Lacks-step_text 32 (λ d. omega arith) (λ h. omega arith) (λ h. omega arith) (λ h. omega arith)

pub loop-word-init : goal.loop-word-init
loop-word-init c = record {
  utf8 = c.utf8.text;
  left = λ all some valid e. subst (λ (t : List Step). Left 32 step_text IsStep all t c.args.text.now) (λ i. steps (sym c.new-builder.ensures.closed i ++ run (sym c.new-builder.ensures.run i))) (left_begin 32 step_text IsStep all c.args.text.now some valid e);
  built = built_at _ _ _ _ c.new-builder.ensures.closed c.new-builder.ensures.run (record { normal = tt; valid = tt; room = omega arith; numbers = tt });
}

pub returns-in_err-read_step-clause-only : goal.returns-in_err-read_step-clause-only
returns-in_err-read_step-clause-only c all some valid e =
    let left = c.loop-word.invariant.left all some valid e in
    let word = left_word 32 step_text IsStep no_space all _ _ _ _ left c.in-Some.ensures.parts c.in-Some.ensures.first in
    let memory = reads_err (λ x. x) c.read_step.result left.next _ c.in_err-read_step.was (c.read_step.ensures.only left.next left.here word.0) in
    reads_passed _ c.from_residual.result all _ c.from_residual.ensures.1 memory

pub loop-word-preserved : goal.loop-word-preserved
loop-word-preserved c = record {
  utf8 = search rules;
  left = λ all some valid e.
      let left = c.loop-word.invariant.left all some valid e in
      let word = left_word 32 step_text IsStep no_space all _ _ _ _ left c.in-Some.ensures.parts c.in-Some.ensures.first in
      let same = reads_ok (λ x. x) c.read_step.result left.next c.in_ok-read_step.field-0 c.in_ok-read_step.was (c.read_step.ensures.only left.next left.here word.0) in
      let items = ap (λ s. steps (c.loop-word.builder.closed.items ++ run c.loop-word.builder.run.items) ++ s ∷ []) (sym same) ∙ sym c.in_ok-push.ensures.steps in
      subst (λ (t : List Step). Left 32 step_text IsStep all t c.in-Some.after.now) items word.1;
  built = c.in_ok-push.ensures.built;
}

pub returns-in_err-read_step-2-clause-only : goal.returns-in_err-read_step-2-clause-only
returns-in_err-read_step-2-clause-only c all some valid e =
    let left = c.loop-word.invariant.left all some valid e in
    let last = left_last 32 step_text IsStep all _ _ left c.in_default.ensures.none in
    let memory = reads_err (λ x. x) c.read_step-2.result left.next _ c.in_err-read_step-2.was (c.read_step-2.ensures.only left.next left.here last.0) in
    reads_passed _ c.from_residual-in_err-read_step-2.result all _ c.from_residual-in_err-read_step-2.ensures.1 memory

pub returns-clause-only : goal.returns-clause-only
returns-clause-only c all some valid e =
    let left = c.loop-word.invariant.left all some valid e in
    let last = left_last 32 step_text IsStep all _ _ left c.in_default.ensures.none in
    let same = reads_ok (λ x. x) c.read_step-2.result left.next c.in_ok-read_step-2.field-0 c.in_ok-read_step-2.was (c.read_step-2.ensures.only left.next left.here last.0) in
    c.in_ok-push-2.ensures.steps ∙ ap (λ s. steps (c.loop-word.builder.closed.items ++ run c.loop-word.builder.run.items) ++ s ∷ []) same ∙ sym last.1
