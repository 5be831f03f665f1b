use Rattle.interleaving_core.proofs.Answering.{answered_in_one}
use Rattle.interleaving_core.proofs.step_laws.answers_are_turns.Goals as goal

pub returns : goal.returns
returns c = record { turn = answered_in_one }
