use Rattle.std.proofs.Common.{◌≡◌, take, map}
use Rattle.route_meaning.specs.Merged.{all_placed}
use Rattle.route_meaning.proofs.placed.place_all.Given as goal

abbrev pub invariant-loop-collector : goal.invariant-loop-collector
invariant-loop-collector l = l.all.items ≡ all_placed 0 (map (λ list. list.now) (take l.collector l.lists))
