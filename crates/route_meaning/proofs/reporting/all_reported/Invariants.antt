use Rattle.std.proofs.Common.{◌≡◌, take}
use Rattle.route_meaning.specs.Events.{all_events, between}
use Rattle.route_meaning.proofs.reporting.all_reported.Given as goal

abbrev pub invariant-loop-placed : goal.invariant-loop-placed
invariant-loop-placed l = l.reported.items ≡ all_events l.question.peer l.question.prefix (between l.question.from l.question.to (take l.placed-index l.list))
