use Rattle.std.proofs.Common.{◌≡◌, ℕ, [], length, arith, ap, ◌∙◌, replicate}
use Rattle.sequencer.proofs.api.Setting.{all_empty}
use Rattle.sequencer.proofs.sequencer.Sequencer.new.Goals as goal

pub invariant_of-result : goal.invariant_of-result
invariant_of-result c = all_empty c.loop.lanes.items _ c.loop.invariant.1

pub returns-clause-marks : goal.returns-clause-marks
returns-clause-marks c =
    let n : length c.loop.lanes.items ≡ c.args.collectors = omega (arith, c.loop.invariant.2, c.loop-test.false, c.loop.auto.counter-end) in
    c.loop.invariant.0 ∙ ap (λ (k : ℕ). replicate k 0) n

pub returns-clause-times : goal.returns-clause-times
returns-clause-times c =
    let n : length c.loop.lanes.items ≡ c.args.collectors = omega (arith, c.loop.invariant.2, c.loop-test.false, c.loop.auto.counter-end) in
    c.loop.invariant.1 ∙ ap (λ (k : ℕ). replicate k []) n
