use Rattle.std.proofs.Common.{◌≡◌, take}
use Rattle.sequencer.proofs.Leasts.{lowest}
use Rattle.sequencer.proofs.first.least_bound.Given as goal

abbrev pub invariant-loop-lane : goal.invariant-loop-lane
invariant-loop-lane l = l.settled ≡ lowest l.initial.settled (take l.lane-index l.lanes)
