use Rattle.std.proofs.Common.{◌≡◌, ◌++◌, map, take, drop}
use Rattle.interleaving_core.specs.World.{ended}
use Rattle.interleaving_core.proofs.machine.Machine.crash.Given as goal

abbrev pub invariant-loop-question : goal.invariant-loop-question
invariant-loop-question l = l.question-items ≡ map ended (take l.question-index l.initial.question-items) ++ drop l.question-index l.initial.question-items
