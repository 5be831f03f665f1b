use Rattle.route_model.specs.Admission.{IsAdmission}
use Rattle.interleaving_core.proofs.Places.{all_more}
use Rattle.interleaving_core.proofs.runs.read_batch.Goals as goal

pub loop-admission-preserved : goal.loop-admission-preserved
loop-admission-preserved c = all_more IsAdmission c.args.batch.now c.loop-admission.admission-index c.admission-item.result c.loop-admission-test.true c.admission-item.is c.changes-changes.ensures.valid c.loop-admission.invariant
