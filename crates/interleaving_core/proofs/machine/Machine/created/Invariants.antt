use Rattle.std.proofs.Common.{◌≡◌, [], replicate}
use Rattle.interleaving_core.proofs.machine.Machine.created.Given as goal

abbrev pub invariant-loop : goal.invariant-loop
invariant-loop l = l.given.items ≡ replicate l.counter (record { admitted = []; mark = 0; offered = 0 })
