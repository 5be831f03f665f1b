-- How long a head is, and what its octets read as.
use Rattle.std.proofs.Common.{◌≡◌, ℕ, zero, suc, ◌+◌, ◌*◌, ◌-◌, ◌^◌, ◌<◌, ◌≤◌, List, [], ◌∷◌, ◌++◌, length, replicate, flat_map, slice_index, refl, ap, ◌∙◌, arith}
use Rattle.std.proofs.lemmas.List.{length-append, length-replicate, append_assoc}
use Rattle.std.proofs.Math.Seq.{drop-append-add}
use Rattle.byteorder.specs.Endian.{big_number}
use Rattle.route_model.specs.Octets.{number_at}
use Rattle.route_model.proofs.Numbers.{again_eight}
use Rattle.archive_head.specs.declared.lane.Lane.{Lane}
use Rattle.route_model.specs.declared.unit.Unit.{Unit}
use Rattle.route_model.specs.Units.{unit_number}
use Rattle.archive_head.specs.Head.{number, lane_octets, octets_in, Contents}

pub length-number : (n : ℕ) → length (number n) ≡ 8
unfolding number
length-number n = refl

pub length-numbers : (ns : List ℕ) → length (flat_map number ns) ≡ 8 * length ns
length-numbers [] = refl
length-numbers (n ∷ ns) = omega (arith, length-append (number n) (flat_map number ns), length-number n, length-numbers ns)

pub length-lane : (l : Lane) → length (lane_octets l) ≡ 64
length-lane l = length-numbers (l.offered ∷ l.admitted ∷ l.mark ∷ l.first ∷ l.used ∷ l.since ∷ 0 ∷ 0 ∷ [])

pub length-lanes : (ls : List Lane) → length (flat_map lane_octets ls) ≡ 64 * length ls
length-lanes [] = refl
length-lanes (l ∷ ls) = omega (arith, length-append (lane_octets l) (flat_map lane_octets ls), length-lane l, length-lanes ls)

-- a head of at most sixteen collectors fills its page
pub length-head : (u : Unit) (h : Contents) → length h.lanes ≤ 16 → length (octets_in u h) ≡ 16384
length-head u h few =
    let front : List ℕ = flat_map number (h.applied ∷ h.last ∷ h.begun ∷ h.fresh ∷ h.block ∷ h.root ∷ unit_number u ∷ 0 ∷ []) in
    let lanes : List ℕ = flat_map lane_octets h.lanes in
    let zeros : List ℕ = replicate (16320 - 64 * length h.lanes) 0 in
    omega (arith, few, length-append front (lanes ++ zeros), length-append lanes zeros, length-lanes h.lanes, length-replicate {A = ℕ} (16320 - 64 * length h.lanes) 0, length-numbers (h.applied ∷ h.last ∷ h.begun ∷ h.fresh ∷ h.block ∷ h.root ∷ unit_number u ∷ 0 ∷ []))

-- what follows a front is read from the front's end on
pub beyond : (front rest : List ℕ) (place : ℕ) → number_at 8 (length front + place) (front ++ rest) ≡ number_at 8 place rest
beyond front rest place = ap (big_number 8) (drop-append-add front rest place)

-- a number at the front is read
pub first_read : (n : ℕ) (rest : List ℕ) → n < 2 ^ 64 → number_at 8 0 (number n ++ rest) ≡ n
unfolding number
first_read n rest lt = again_eight [] rest n lt

-- the k-th of numbers is read at its place
pub number_read : (ns rest : List ℕ) (k : ℕ) → k < length ns → slice_index ns k < 2 ^ 64 → number_at 8 (8 * k) (flat_map number ns ++ rest) ≡ slice_index ns k
number_read [] rest k within lt = absurd (omega arith)
number_read (x ∷ ns) rest zero within lt = ap (number_at 8 0) (append_assoc (number x) (flat_map number ns) rest) ∙ first_read x (flat_map number ns ++ rest) lt
number_read (x ∷ ns) rest (suc k) within lt =
    let place : 8 * suc k ≡ length (number x) + 8 * k = omega (arith, length-number x) in
    ap (λ (p : ℕ). number_at 8 p ((number x ++ flat_map number ns) ++ rest)) place
    ∙ ap (number_at 8 (length (number x) + 8 * k)) (append_assoc (number x) (flat_map number ns) rest)
    ∙ beyond (number x) (flat_map number ns ++ rest) (8 * k)
    ∙ number_read ns rest k (omega (arith, within)) lt
