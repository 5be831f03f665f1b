use Rattle.sequencer.specs.Ahead.{beyond}
use Rattle.sequencer.proofs.Firsts.{IsBest}
use Rattle.sequencer.proofs.ahead.first_after.Given as goal

abbrev pub invariant-loop-number : goal.invariant-loop-number
invariant-loop-number l = IsBest (beyond l.passed l.lanes) l.number l.found
