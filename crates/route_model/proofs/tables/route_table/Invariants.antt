use Rattle.std.proofs.Common.{◌≡◌, take, map}
use Rattle.std.specs.List.{flat_map}
use Rattle.route_model.specs.Encoding.{route_octets}
use Rattle.route_model.specs.Admission.{announced}
use Rattle.route_model.specs.Tables.{distinct}
use Rattle.route_model.proofs.tables.route_table.Given as goal

abbrev pub invariant-loop-c : goal.invariant-loop-c
invariant-loop-c l = map (λ r. r.now) l.rows.keys ≡ distinct (map route_octets (flat_map announced (take l.c-index l.changes)))
