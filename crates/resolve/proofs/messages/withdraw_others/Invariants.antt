use Rattle.std.proofs.Common.{◌≡◌, ◌++◌, take, filter, not}
use Rattle.bgp_update.specs.Messages.{option_reported}
use Rattle.resolve.specs.Changes.{is_among, withdrawals}
use Rattle.resolve.proofs.messages.withdraw_others.Given as goal

abbrev pub invariant-loop-prefix : goal.invariant-loop-prefix
invariant-loop-prefix l = l.changes.items ≡ l.initial.changes.items ++ withdrawals l.peer (filter (λ x. not (is_among (option_reported l.announced) x)) (take l.prefix-index l.prefixes))
