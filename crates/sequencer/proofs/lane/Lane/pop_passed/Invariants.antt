use Rattle.std.proofs.Common.{◌≡◌, drop}
use Rattle.sequencer.proofs.lane.Lane.pop_passed.Given as goal

abbrev pub invariant-loop : goal.invariant-loop
invariant-loop l = (l.self.mark ≡ l.fn.self.mark) × (l.self.times ≡ drop l.counter l.fn.self.times)
