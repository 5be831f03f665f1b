use Rattle.std.proofs.Common.{◌≡◌, ◌++◌, map, take}
use Rattle.std.specs.List.{flat_map}
use Rattle.route_model.specs.Admission.{change_octets}
use Rattle.route_model.proofs.admission_writing.put_changes.Given as goal

abbrev pub invariant-loop-c : goal.invariant-loop-c
invariant-loop-c l = l.out.items ≡ l.fn.out.items ++ flat_map (change_octets l.peers.keys (map (λ row. row.now) l.routes.keys)) (take l.c-index l.changes)
