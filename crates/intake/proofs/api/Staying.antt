-- What a ring holds, and pages that aren't its own.
use Rattle.std.proofs.Common.{◌≡◌, ◌⊎◌, ◌<◌, ◌≤◌, ℕ, ◌+◌, ◌*◌, ◌/◌, ◌%◌, List, get_or, ap, arith, inl, inr}
use Rattle.std.specs.List.{flat_map}
use Rattle.route_model.specs.Admission.{Admitted}
use Rattle.intake.specs.declared.ring.Ring.{Ring}
use Rattle.intake.specs.Ring.{page_at, entry, size_of, ring_octet, ChangesOnly, RingRepresents, IsRing}
use Rattle.intake.proofs.Wrapping.{reads_same}

octet_same : (low count : ℕ) (old new : List (List ℕ)) → ((n : ℕ) → low ≤ n → n < low + count → page_at new n ≡ page_at old n) → (i : ℕ) → i < 16384 * count → ring_octet new low i ≡ ring_octet old low i
octet_same low count old new same i lt = ap (λ (page : List ℕ). get_or page (i % 16384) 0) (same (low + i / 16384) (omega arith) (omega arith))

-- it stays where the ring's pages stay
pub holds_same : (homes : ℕ) (ring : Ring) (old new : List (List ℕ)) (waits : List Admitted) → IsRing homes ring → ((n : ℕ) → ring.low ≤ n → n < ring.low + ring.count → page_at new n ≡ page_at old n) → RingRepresents old ring waits → RingRepresents new ring waits
holds_same homes ring old new waits r same h =
    let size = h.size in
    let few = r.used in
    record {
      valid = h.valid;
      size = h.size;
      octets = reads_same (ring_octet old ring.low) (ring_octet new ring.low) (size_of ring) ring.first (flat_map entry waits) r.start (omega arith) (octet_same ring.low ring.count old new same) h.octets;
    }

-- and while another ring's pages are changed
pub holds_beside : (homes : ℕ) (one other : Ring) (old new : List (List ℕ)) (waits : List Admitted) → IsRing homes other → (other.low + other.count ≤ one.low) ⊎ (one.low + one.count ≤ other.low) → ChangesOnly one old new → RingRepresents old other waits → RingRepresents new other waits
holds_beside homes one other old new waits r apart changes h =
    holds_same homes other old new waits r
    (λ n ge lt. elim apart [ inl before ↦ changes.below n (omega arith) | inr beyond ↦ changes.above n (omega arith) ]) h
