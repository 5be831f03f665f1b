use Rattle.interleaving_core.proofs.api.Right.{begins_given}
use Rattle.interleaving_core.proofs.api.GoingOn.{begins_marked, begins_applied}
use Rattle.interleaving_core.proofs.step_laws.steps_go_on.Goals as goal

pub returns : goal.returns
returns c = record { given = begins_given; marked = begins_marked; applied = begins_applied }
