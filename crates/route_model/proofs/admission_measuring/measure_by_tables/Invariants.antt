use Rattle.std.proofs.Common.{◌≡◌, ◌≤◌, ℕ, length, map, take}
use Rattle.route_model.specs.Admission.{peer_rows, route_rows, admission_octets}
use Rattle.route_model.proofs.admission_measuring.measure_by_tables.Given as goal

abbrev pub invariant-loop-i : goal.invariant-loop-i
invariant-loop-i l = (l.len ≤ 131072) × (l.peers.keys ≡ peer_rows (take l.i l.changes)) × (map (λ r. r.now) l.routes.keys ≡ route_rows (take l.i l.changes)) × ((time : ℕ) → l.len ≡ length (admission_octets (record { time = time; changes = take l.i l.changes })))
