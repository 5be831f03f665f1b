use Rattle.std.proofs.Common.{◌≡◌, ◌≤◌, length, map, drop, false}
use Rattle.route_model.specs.Encoding.{peer_octets}
use Rattle.route_model.specs.Tables.{has_row}
use Rattle.route_model.specs.Admission.{peer_of}
use Rattle.route_model.proofs.admission_measuring.has_peer.Given as goal

abbrev pub invariant-loop-left : goal.invariant-loop-left
invariant-loop-left l = (l.left ≤ length l.before) × (has_row (map peer_octets (map peer_of (drop l.left l.before))) (peer_octets l.peer) ≡ false)

abbrev pub decreases-loop-left : goal.decreases-loop-left
decreases-loop-left l = l.left
