use Rattle.sequencer.proofs.Running.{runs_ordered}
use Rattle.sequencer.proofs.laws.runs_release_in_order.Goals as goal

pub returns : goal.returns
returns c = record { order = runs_ordered }
