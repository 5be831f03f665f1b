use Rattle.std.proofs.Common.{◌≡◌, length, replicate}
use Rattle.sequencer.proofs.sequencer.Sequencer.ahead.Given as goal

abbrev pub invariant-loop : goal.invariant-loop
invariant-loop l = (l.passed.items ≡ replicate (length l.passed.items) 0) × (length l.passed.items ≡ l.counter)
