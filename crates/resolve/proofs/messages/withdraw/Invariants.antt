use Rattle.std.proofs.Common.{◌≡◌, ◌++◌, take}
use Rattle.resolve.specs.Changes.{withdrawals}
use Rattle.resolve.proofs.messages.withdraw.Given as goal

abbrev pub invariant-loop-prefix : goal.invariant-loop-prefix
invariant-loop-prefix l = l.changes.items ≡ l.initial.changes.items ++ withdrawals l.peer (take l.prefix-index l.prefixes)
