use Rattle.std.proofs.Common.{◌≡◌, take}
use Rattle.route_model.proofs.admission.share_all.Given as goal

abbrev pub invariant-loop-change : goal.invariant-loop-change
invariant-loop-change l = l.shared.items ≡ take l.change-index l.changes
