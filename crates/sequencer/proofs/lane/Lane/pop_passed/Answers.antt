use Rattle.std.proofs.Common.{◌≡◌, ℕ, ◌+◌, suc, drop, ap, ◌∙◌, arith}
use Rattle.sequencer.proofs.Aheads.{drop_more}
use Rattle.sequencer.proofs.lane.Lane.pop_passed.Goals as goal

pub loop-preserved : goal.loop-preserved
loop-preserved c =
    let n = c.loop.counter in
    let times = c.args.self.now.times in
    let more : suc n ≡ n + 1 = omega arith in
    (c.pop.ensures.mark ∙ c.loop.invariant.0, c.pop.ensures.rest ∙ (ap (drop 1) c.loop.invariant.1 ∙ (drop_more n times ∙ ap (λ (k : ℕ). drop k times) more)))
