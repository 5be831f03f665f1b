use Rattle.std.proofs.Common.{◌≡◌, ◌++◌, drop}
use Rattle.disk_memory.specs.OnceFailure.{failing_reads_of}
use Rattle.disk_memory.proofs.once_failure.failing_reads.Given as goal

abbrev pub invariant-loop-failure : goal.invariant-loop-failure
invariant-loop-failure l = failing_reads_of l.script ≡ l.numbers.items ++ failing_reads_of (drop l.failure-index l.script)
