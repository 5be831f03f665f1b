use Rattle.std.proofs.Common.{◌≡◌, ◌≤◌, length, map, drop, false}
use Rattle.std.specs.List.{flat_map}
use Rattle.route_model.specs.Encoding.{route_octets}
use Rattle.route_model.specs.Tables.{has_row}
use Rattle.route_model.specs.Admission.{announced}
use Rattle.route_model.proofs.admission_measuring.has_route.Given as goal

abbrev pub invariant-loop-left : goal.invariant-loop-left
invariant-loop-left l = (l.left ≤ length l.before) × (has_row (map route_octets (flat_map announced (drop l.left l.before))) l.row ≡ false)

abbrev pub decreases-loop-left : goal.decreases-loop-left
decreases-loop-left l = l.left
