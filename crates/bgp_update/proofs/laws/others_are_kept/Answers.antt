use Rattle.bgp_update.proofs.Kept.{others_moved, others_ascend}
use Rattle.bgp_update.proofs.laws.others_are_kept.Goals as goal

pub returns-clause-kept : goal.returns-clause-kept
returns-clause-kept c = others_moved

pub returns-clause-ascending : goal.returns-clause-ascending
returns-clause-ascending c = others_ascend
