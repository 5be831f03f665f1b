use Rattle.resolve.proofs.LeavingOut.{others_mean, nothing_means, others_counted}
use Rattle.resolve.proofs.laws.records_mean_what_their_other_entries_mean.Goals as goal

pub returns-clause-others : goal.returns-clause-others
returns-clause-others c = others_mean

pub returns-clause-nothing : goal.returns-clause-nothing
returns-clause-nothing c = nothing_means

pub returns-clause-counted : goal.returns-clause-counted
returns-clause-counted c = others_counted
