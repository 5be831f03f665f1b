use Rattle.sequencer.proofs.Firsts.{IsBest}
use Rattle.sequencer.proofs.first.first_lane.Given as goal

abbrev pub invariant-loop-number : goal.invariant-loop-number
invariant-loop-number l = IsBest l.lanes l.number l.found
