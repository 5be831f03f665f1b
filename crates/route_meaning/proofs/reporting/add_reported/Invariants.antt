use Rattle.std.proofs.Common.{◌≡◌, ◌++◌, take, map, filter}
use Rattle.route_meaning.specs.Holds.{concerns}
use Rattle.route_meaning.proofs.reporting.add_reported.Given as goal

abbrev pub invariant-loop-change : goal.invariant-loop-change
invariant-loop-change l = l.reported.items ≡ l.initial.reported.items ++ map (λ change. record { time = l.admission.time; change = change }) (filter (concerns l.peer l.prefix) (take l.change-index l.admission.changes))
