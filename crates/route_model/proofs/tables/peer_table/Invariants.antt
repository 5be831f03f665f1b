use Rattle.std.proofs.Common.{◌≡◌, take, map}
use Rattle.route_model.specs.Encoding.{peer_octets}
use Rattle.route_model.specs.Admission.{peer_of}
use Rattle.route_model.specs.Tables.{distinct}
use Rattle.route_model.proofs.tables.peer_table.Given as goal

abbrev pub invariant-loop-c : goal.invariant-loop-c
invariant-loop-c l = l.rows.keys ≡ distinct (map peer_octets (map peer_of (take l.c-index l.changes)))
