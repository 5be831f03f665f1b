use Rattle.std.proofs.Common.{◌≢◌, [], ◌∷◌, length, sym, ap, ◌∙◌, arith}
use Rattle.std.proofs.lemmas.Bool.{false≢true}
use Rattle.std.proofs.lemmas.Slice.Eq.{bytes_eq-Decides}
use Rattle.route_text.specs.inner.Steps.{steps}
use Rattle.route_text.proofs.Outcomes.{reads_ok, reads_err, reads_passed}
use Rattle.route_text.proofs.PathTexts.{dash, some_segment, steps_valid, length-steps, path_text-steps, normal_unique}
use Rattle.route_text.proofs.path_reading.read_path.Goals as goal

pub returns-then-eq-clause-only : goal.returns-then-eq-clause-only
returns-then-eq-clause-only c path count valid normal e =
    let text = (bytes_eq-Decides c.args.text.now (45 ∷ [])).0 (sym c.eq.ensures ∙ c.if-eq.true) in
    let none = dash path valid (sym e ∙ text) in
    c.new-then-eq.ensures.path ∙ c.new.ensures.items ∙ sym none

pub returns-in_err-builder-clause-only : goal.returns-in_err-builder-clause-only
returns-in_err-builder-clause-only c path count valid normal e =
    let other : c.args.text.now ≢ 45 ∷ [] = λ same. false≢true (sym c.if-eq.false ∙ c.eq.ensures ∙ (bytes_eq-Decides c.args.text.now (45 ∷ [])).1 same) in
    let some = some_segment path c.args.text.now other e in
    let memory = reads_err _ c.read_steps.result _ _ c.in_err-builder.was (c.read_steps.ensures.only _ (length-steps path valid some) (steps_valid path valid) (e ∙ path_text-steps path some valid)) in
    reads_passed _ c.from_residual.result path _ c.from_residual.ensures.1 memory

pub returns-then-len-gt-MOST_SEGMENTS-clause-only :
    goal.returns-then-len-gt-MOST_SEGMENTS-clause-only
returns-then-len-gt-MOST_SEGMENTS-clause-only c path count valid normal e =
    let other : c.args.text.now ≢ 45 ∷ [] = λ same. false≢true (sym c.if-eq.false ∙ c.eq.ensures ∙ (bytes_eq-Decides c.args.text.now (45 ∷ [])).1 same) in
    let some = some_segment path c.args.text.now other e in
    let same = reads_ok _ c.read_steps.result _ _ c.in_ok-builder.was (c.read_steps.ensures.only _ (length-steps path valid some) (steps_valid path valid) (e ∙ path_text-steps path some valid)) in
    let whole = normal_unique c.in_ok-segments.segments.items path c.in_ok-segments.ensures.valid valid c.in_ok-segments.ensures.normal normal (ap steps c.in_ok-segments.ensures.path ∙ same) in
    absurd (let size = ap length whole in omega (arith, c.in_ok-segments.segments.ok.0, c.len.ensures))

pub returns-clause-only : goal.returns-clause-only
returns-clause-only c path count valid normal e =
    let other : c.args.text.now ≢ 45 ∷ [] = λ same. false≢true (sym c.if-eq.false ∙ c.eq.ensures ∙ (bytes_eq-Decides c.args.text.now (45 ∷ [])).1 same) in
    let some = some_segment path c.args.text.now other e in
    let same = reads_ok _ c.read_steps.result _ _ c.in_ok-builder.was (c.read_steps.ensures.only _ (length-steps path valid some) (steps_valid path valid) (e ∙ path_text-steps path some valid)) in
    let whole = normal_unique c.in_ok-segments.segments.items path c.in_ok-segments.ensures.valid valid c.in_ok-segments.ensures.normal normal (ap steps c.in_ok-segments.ensures.path ∙ same) in
    c.new-2.ensures.path ∙ whole
