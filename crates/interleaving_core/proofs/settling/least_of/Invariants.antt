use Rattle.std.proofs.Common.{◌≡◌, take}
use Rattle.interleaving_core.proofs.Settled.{lowest}
use Rattle.interleaving_core.proofs.settling.least_of.Given as goal

abbrev pub invariant-loop-mark : goal.invariant-loop-mark
invariant-loop-mark l = l.found ≡ lowest l.initial.found (take l.mark-index l.marks)
