use Rattle.std.proofs.Common.{◌≡◌, [], take}
use Rattle.route_meaning.specs.Merged.{part}
use Rattle.interleaving_core.proofs.settling.bound_of.Given as goal

abbrev pub invariant-loop-placed : goal.invariant-loop-placed
invariant-loop-placed l = part l.collector (take l.placed-index l.waiting) ≡ []
