use Rattle.std.proofs.Common.{◌≡◌, drop}
use Rattle.disk_memory.specs.OnceFailure.{burn_failure_at}
use Rattle.disk_memory.proofs.once_failure.burn_failure.Given as goal

abbrev pub invariant-loop-failure : goal.invariant-loop-failure
invariant-loop-failure l = burn_failure_at l.number l.script ≡ burn_failure_at l.number (drop l.failure-index l.script)
