use Rattle.std.proofs.Common.{take}
use Rattle.std.specs.List.{AllByRecursion}
use Rattle.route_model.specs.Admission.{IsAdmission}
use Rattle.interleaving_core.proofs.runs.read_batch.Given as goal

abbrev pub invariant-loop-admission : goal.invariant-loop-admission
invariant-loop-admission l = AllByRecursion IsAdmission (take l.admission-index l.batch)
