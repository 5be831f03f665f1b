use Rattle.std.proofs.Common.{List, ℕ, length, ap, ◌∙◌}
use Rattle.sequencer.specs.Ahead.{beyond}
use Rattle.sequencer.proofs.Aheads.{after_none}
use Rattle.sequencer.proofs.sequencer.Sequencer.ahead.Goals as goal

pub returns-clause-same : goal.returns-clause-same
returns-clause-same c = ap (λ (ns : List ℕ). beyond ns c.args.self.now) c.loop.invariant.0 ∙ after_none (length c.loop.passed.items) c.args.self.now
