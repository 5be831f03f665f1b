use Rattle.std.proofs.Common.{◌≡◌, ◌++◌, take, map}
use Rattle.route_model.specs.declared.change.Change.TheVariants as changes
use Rattle.resolve.proofs.messages.announce_all.Given as goal

abbrev pub invariant-loop-prefix : goal.invariant-loop-prefix
invariant-loop-prefix l = l.changes.items ≡ l.initial.changes.items ++ map (λ x. changes.Announce l.peer x l.route) (take l.prefix-index l.prefixes)
