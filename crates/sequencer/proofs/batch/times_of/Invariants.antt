use Rattle.std.proofs.Common.{◌≡◌, map, take}
use Rattle.route_meaning.specs.Holds.{admitted_time}
use Rattle.sequencer.proofs.batch.times_of.Given as goal

abbrev pub invariant-loop-admission : goal.invariant-loop-admission
invariant-loop-admission l = l.times.items ≡ map admitted_time (take l.admission-index l.batch)
