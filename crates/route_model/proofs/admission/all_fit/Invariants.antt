use Rattle.std.proofs.Common.{take}
use Rattle.std.specs.List.{AllByRecursion}
use Rattle.route_model.specs.Admission.{IsChange}
use Rattle.route_model.proofs.admission.all_fit.Given as goal

abbrev pub invariant-loop-c : goal.invariant-loop-c
invariant-loop-c l = AllByRecursion IsChange (take l.c-index l.changes)
