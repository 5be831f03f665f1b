use Rattle.std.proofs.Common.{◌≡◌, take}
use Rattle.route_meaning.specs.History.{bounds}
use Rattle.interleaving_core.proofs.settling.bounds_of.Given as goal

abbrev pub invariant-loop-collector : goal.invariant-loop-collector
invariant-loop-collector l = l.all.items ≡ bounds 0 (take l.collector l.given) l.waiting
