use Rattle.std.proofs.Common.{take}
use Rattle.std.specs.List.{AllByRecursion}
use Rattle.interleaving_core.specs.Does.{Runs, IsStep}
use Rattle.interleaving_core.proofs.runs.run.Given as goal

abbrev pub invariant-loop-step : goal.invariant-loop-step
invariant-loop-step l = record {
  runs : Runs l.initial.machine (take l.step-index l.steps) l.replies.items l.machine;
  valid : AllByRecursion IsStep (take l.step-index l.steps);
}
