use Rattle.std.proofs.Common.{◌≡◌, ◌++◌, replicate}
use Rattle.archive_head.proofs.writing.put_zeros.Given as goal

abbrev pub invariant-loop : goal.invariant-loop
invariant-loop l = l.out.items ≡ l.initial.out.items ++ replicate l.counter 0
