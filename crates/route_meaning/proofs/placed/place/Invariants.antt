use Rattle.std.proofs.Common.{◌≡◌, ◌++◌, take, map}
use Rattle.route_meaning.specs.Merged.{placed}
use Rattle.route_meaning.proofs.placed.place.Given as goal

abbrev pub invariant-loop-admission : goal.invariant-loop-admission
invariant-loop-admission l = l.all.items ≡ l.initial.all.items ++ map (placed l.collector) (take l.admission-index l.list)
