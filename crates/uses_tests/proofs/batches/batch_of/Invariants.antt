use Rattle.std.specs.List.{AllByRecursion}
use Rattle.route_model.specs.Admission.{IsAdmission}
use Rattle.uses_tests.proofs.batches.batch_of.Given as goal

abbrev pub invariant-loop-number : goal.invariant-loop-number
invariant-loop-number l = AllByRecursion IsAdmission l.admissions.items
