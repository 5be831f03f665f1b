use Rattle.std.proofs.Common.{◌≡◌, drop}
use Rattle.disk_memory.specs.Failure.{write_failure_at}
use Rattle.disk_memory.proofs.failure.write_failure.Given as goal

abbrev pub invariant-loop-failure : goal.invariant-loop-failure
invariant-loop-failure l = write_failure_at l.number l.script ≡ write_failure_at l.number (drop l.failure-index l.script)
