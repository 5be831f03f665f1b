use Rattle.interleaving_core.proofs.api.Joining.{given_both}
use Rattle.interleaving_core.proofs.step_laws.batches_are_one.Goals as goal

pub returns : goal.returns
returns c = record { one = given_both }
