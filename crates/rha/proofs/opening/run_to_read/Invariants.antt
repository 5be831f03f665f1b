use Rattle.std.proofs.Common.{◌≡◌}
use Rattle.rha.proofs.opening.run_to_read.Given as goal

-- the command wasn't run yet
abbrev pub invariant-tries : goal.invariant-tries
invariant-tries g l = l.command ≡ l.initial.command
