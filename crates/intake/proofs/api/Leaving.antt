-- The first admission leaves its ring; and what its time has no part in.
use Rattle.std.proofs.Common.{◌≡◌, ◌<◌, ◌≤◌, ℕ, ◌+◌, ◌-◌, ◌∷◌, List, length, sym, ap, ◌∙◌, arith}
use Rattle.route_model.specs.Admission.{Admitted, admission_octets}
use Rattle.route_model.proofs.api.Admissions as admissions
use Rattle.intake.specs.declared.ring.Ring.{Ring}
use Rattle.intake.specs.Ring.{entry, size_of, wrapped, RingRepresents, IsRing}
use Rattle.intake.proofs.Wrapping.{wrapped_low}
use Rattle.intake.proofs.Entries.{holds_later, length-sized}

-- the ring of which the first admission is gone holds the others
pub holds_popped : (pages : List (List ℕ)) (ring : Ring) (a : Admitted) (rest : List Admitted) → ring.first < size_of ring → ring.used ≤ size_of ring → RingRepresents pages ring (a ∷ rest)
    → RingRepresents pages (record ring { first = wrapped (size_of ring) (ring.first + length (entry a)); used = ring.used - length (entry a) }) rest
holds_popped pages ring a rest start used h = holds_later pages ring a rest start used h

-- and is one still
pub is_ring_popped : (homes : ℕ) (ring : Ring) (a : Admitted) → length (entry a) ≤ ring.used → IsRing homes ring
    → IsRing homes (record ring { first = wrapped (size_of ring) (ring.first + length (entry a)); used = ring.used - length (entry a) })
is_ring_popped homes ring a fits r =
    let most = r.used in
    record {
      inside = r.inside;
      small = r.small;
      few = r.few;
      start = wrapped_low (size_of ring) ring.first (length (entry a)) r.start (omega arith);
      used = omega arith;
    }

-- an entry has as many octets at any time
pub any_time : (a : Admitted) (time : ℕ) → length (entry (record { time = time; changes = a.changes })) ≡ length (entry a)
any_time a time = length-sized (admission_octets (record { time = time; changes = a.changes })) ∙ (ap (λ (n : ℕ). 4 + n) (admissions.any_time a time) ∙ sym (length-sized (admission_octets a)))
