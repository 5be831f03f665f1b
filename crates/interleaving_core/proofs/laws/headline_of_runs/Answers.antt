use Rattle.interleaving_core.proofs.Promised.{promised}
use Rattle.interleaving_core.proofs.laws.headline_of_runs.Goals as goal

pub returns : goal.returns
returns c = record { headline = λ collectors steps replies last valid run. promised collectors steps replies last valid run }
