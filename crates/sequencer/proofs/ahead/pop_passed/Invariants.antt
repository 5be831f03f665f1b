use Rattle.sequencer.proofs.Aheads.{AreTaken}
use Rattle.sequencer.proofs.ahead.pop_passed.Given as goal

abbrev pub invariant-loop-number : goal.invariant-loop-number
invariant-loop-number l = AreTaken l.passed l.fn.lanes l.number l.lanes
