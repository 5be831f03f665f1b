use Rattle.std.proofs.Common.{◌≡◌, ◌≤◌, ℕ, length, take}
use Rattle.route_model.specs.Admission.{admission_octets}
use Rattle.route_model.proofs.admission_measuring.measure_back.Given as goal

abbrev pub invariant-loop-i : goal.invariant-loop-i
invariant-loop-i l = (l.len ≤ 131072) × ((time : ℕ) → l.len ≡ length (admission_octets (record { time = time; changes = take l.i l.changes })))
