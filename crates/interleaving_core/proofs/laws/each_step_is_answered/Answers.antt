use Rattle.interleaving_core.proofs.Answered.{step_answered, run_answered}
use Rattle.interleaving_core.proofs.laws.each_step_is_answered.Goals as goal

pub returns : goal.returns
returns c = record { answered = λ w step right. step_answered w step right; runs = λ collectors steps valid. run_answered collectors steps valid }
