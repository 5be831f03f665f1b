-- What a ring holds of what waits, as admissions come and go.
use Rattle.std.proofs.Common.{◌≡◌, ◌<◌, ◌≤◌, ℕ, zero, suc, ◌+◌, ◌*◌, ◌-◌, List, [], ◌∷◌, ◌++◌, length, map, refl, sym, ◌∙◌, ap, subst, arith, length-append, Some}
use Rattle.std.specs.List.{AllByRecursion, flat_map, slice_get}
use Rattle.route_model.specs.Admission.{Admitted, IsAdmission}
use Rattle.route_model.specs.declared.unit.Unit.TheVariants.{Seconds}
use Rattle.route_model.specs.Moments.{IsMoment}
use Rattle.route_model.specs.Units.{moments_in}
use Rattle.archive_head.specs.declared.lane.Lane.{Lane}
use Rattle.intake.specs.declared.ring.Ring.{Ring}
use Rattle.intake.specs.Ring.{entry, octets_for, size_of, time_of, wrapped, IsRing, RingRepresents}
use Rattle.intake.proofs.api.Leaving.{any_time, holds_popped}
use Rattle.intake.proofs.api.Staying.{holds_same}
use Rattle.archive_pages.specs.declared.settings.Settings.{Settings}
use Rattle.archive_pages.specs.Changes.{lane_popped}
use Rattle.archive_pages.specs.Places.{SamePages, ring_low, ring_of}
use Rattle.archive_pages.specs.Stored.{LaneHolds, older_of, scaled_admission, scaled_first, scaled_times}

-- ---- lists whose first members are scaled

pub scaled_length : (k n : ℕ) (xs : List Admitted) → length (scaled_first k n xs) ≡ length xs
scaled_length k zero xs = refl
scaled_length k (suc n) [] = refl
scaled_length k (suc n) (a ∷ xs) = ap suc (scaled_length k n xs)

scaled_size : (k n : ℕ) (xs : List Admitted) → octets_for (scaled_first k n xs) ≡ octets_for xs
scaled_size k zero xs = refl
scaled_size k (suc n) [] = refl
scaled_size k (suc n) (a ∷ xs) =
    let one = any_time a (a.time * k) in
    let others = scaled_size k n xs in
    let l = length-append (entry (scaled_admission k a)) (flat_map entry (scaled_first k n xs)) in
    let r = length-append (entry a) (flat_map entry xs) in
    omega (arith, one, others, l, r)

scaled_append : (k n : ℕ) (xs bs : List Admitted) → n ≤ length xs → scaled_first k n (xs ++ bs) ≡ scaled_first k n xs ++ bs
scaled_append k zero xs bs le = refl
scaled_append k (suc n) [] bs le = absurd (omega (arith, le))
scaled_append k (suc n) (a ∷ xs) bs le = ap (λ (l : List Admitted). scaled_admission k a ∷ l) (scaled_append k n xs bs (omega (arith, le)))

-- the times of what is scaled are scaled
pub times_scaled : (k n : ℕ) (xs : List Admitted) → map time_of (scaled_first k n xs) ≡ scaled_times k n (map time_of xs)
times_scaled k zero xs = refl
times_scaled k (suc n) [] = refl
times_scaled k (suc n) (a ∷ xs) = ap (λ (l : List ℕ). a.time * k ∷ l) (times_scaled k n xs)

-- the first one
first_scaled : (k n : ℕ) (xs : List Admitted) (x : Admitted) (time : ℕ) → slice_get xs 0 ≡ Some x → slice_get (map time_of (scaled_first k n xs)) 0 ≡ Some time → slice_get (scaled_first k n xs) 0 ≡ Some (record { time = time; changes = x.changes })
first_scaled k n [] x time e t = cc
first_scaled k zero (a ∷ xs) x time e t =
    let same : a ≡ x = cc in
    let at : a.time ≡ time = cc in
    λ i. Some (record { time = at i; changes = (same i).changes })
first_scaled k (suc n) (a ∷ xs) x time e t =
    let same : a ≡ x = cc in
    let at : a.time * k ≡ time = cc in
    λ i. Some (record { time = at i; changes = (same i).changes })

all_after : (xs bs : List Admitted) → AllByRecursion IsAdmission (xs ++ bs) → AllByRecursion IsAdmission bs
all_after [] bs all = all
all_after (a ∷ xs) bs all = all_after xs bs all.1

all_both : (xs bs : List Admitted) → AllByRecursion IsAdmission xs → AllByRecursion IsAdmission bs → AllByRecursion IsAdmission (xs ++ bs)
all_both [] bs all more = more
all_both (a ∷ xs) bs all more = (all.0, all_both xs bs all.1 more)

-- ---- what a ring holds

module _ (s : Settings) (pages : List (List ℕ)) (c : ℕ) (lane : Lane) where
  -- the octets that are used
  pub holds_size : (waits : List Admitted) → LaneHolds s pages c lane waits → octets_for waits ≡ lane.used
  holds_size waits h = ap octets_for h.moments ∙ (scaled_size (moments_in Seconds) (older_of lane (length h.stored)) h.stored ∙ h.represents.size)

  -- as many are stored as wait
  pub holds_length : (waits : List Admitted) → (h : LaneHolds s pages c lane waits) → length h.stored ≡ length waits
  holds_length waits h = sym (ap length h.moments ∙ scaled_length (moments_in Seconds) (older_of lane (length h.stored)) h.stored)

  -- what waits has moments
  pub holds_moments : (waits : List Admitted) → LaneHolds s pages c lane waits → AllByRecursion IsMoment (map time_of waits)
  holds_moments waits h = each waits h.valid
    where
      each : (xs : List Admitted) → AllByRecursion IsAdmission xs → AllByRecursion IsMoment (map time_of xs)
      each [] all = tt
      each (a ∷ xs) all = (all.0.time, each xs all.1)

  -- the times that wait are those of the ring, in moments
  pub holds_times : (waits : List Admitted) → (h : LaneHolds s pages c lane waits) → map time_of waits ≡ scaled_times (moments_in Seconds) (older_of lane (length (map time_of h.stored))) (map time_of h.stored)
  holds_times waits h =
      ap (map time_of) h.moments
      ∙ (times_scaled (moments_in Seconds) (older_of lane (length h.stored)) h.stored
      ∙ ap (λ (n : ℕ). scaled_times (moments_in Seconds) (older_of lane n) (map time_of h.stored)) (sym (count h.stored)))
    where
      count : (xs : List Admitted) → length (map time_of xs) ≡ length xs
      count [] = refl
      count (a ∷ xs) = ap suc (count xs)

  -- the first that waits is the first of the ring, at its moment
  pub front_stored : (waits : List Admitted) (x : Admitted) (time : ℕ) → (h : LaneHolds s pages c lane waits) → slice_get h.stored 0 ≡ Some x → slice_get (map time_of waits) 0 ≡ Some time → slice_get waits 0 ≡ Some (record { time = time; changes = x.changes })
  front_stored waits x time h e t =
      let k = moments_in Seconds in
      let n = older_of lane (length h.stored) in
      ap (λ (l : List Admitted). slice_get l 0) h.moments ∙ first_scaled k n h.stored x time e (ap (λ (l : List Admitted). slice_get (map time_of l) 0) (sym h.moments) ∙ t)

  -- where the ring's pages stay
  pub holds_framed : (new : List (List ℕ)) (waits : List Admitted) → IsRing (length pages) (ring_of s c lane) → SamePages (ring_low s c) (ring_low s c + s.ring) pages new → LaneHolds s pages c lane waits → LaneHolds s new c lane waits
  holds_framed new waits place same h = record { valid = h.valid; stored = h.stored; represents = holds_same (length pages) (ring_of s c lane) pages new h.stored place same h.represents; moments = h.moments }

  -- more admissions follow those that the ring holds
  pub holds_given : (new : List (List ℕ)) (after : Lane) (waits more : List Admitted) → (h : LaneHolds s pages c lane waits) → lane.since ≤ lane.admitted → after.since ≡ lane.since → after.admitted ≡ lane.admitted + length more
      → RingRepresents new (ring_of s c after) (h.stored ++ more) → LaneHolds s new c after (waits ++ more)
  holds_given new after waits more h few since admitted represents =
      let k = moments_in Seconds in
      let n = length h.stored in
      let both = length-append h.stored more in
      let same : older_of after (length (h.stored ++ more)) ≡ older_of lane n = omega (arith, few, since, admitted, both) in
      record {
        valid = all_both waits more h.valid (all_after h.stored more represents.valid);
        stored = h.stored ++ more;
        represents = represents;
        moments = ap (λ (l : List Admitted). l ++ more) h.moments ∙ (sym (scaled_append k (older_of lane n) h.stored more (omega arith)) ∙ ap (λ (o : ℕ). scaled_first k o (h.stored ++ more)) (sym same));
      }

head_of : (k o : ℕ) (x first : Admitted) (rest later : List Admitted) → first ∷ later ≡ scaled_first k o (x ∷ rest) → length (entry first) ≡ length (entry x)
head_of k zero x first rest later e = let same : first ≡ x = cc in ap (λ (a : Admitted). length (entry a)) same
head_of k (suc o) x first rest later e = let same : first ≡ scaled_admission k x = cc in ap (λ (a : Admitted). length (entry a)) same ∙ any_time x (x.time * k)

tail_of : (k o p : ℕ) (x first : Admitted) (rest later : List Admitted) → p ≡ o - 1 → first ∷ later ≡ scaled_first k o (x ∷ rest) → later ≡ scaled_first k p rest
tail_of k zero p x first rest later is e = let same : later ≡ rest = cc in same ∙ ap (λ (n : ℕ). scaled_first k n rest) (sym is)
tail_of k (suc o) p x first rest later is e =
    let same : later ≡ scaled_first k o rest = cc in
    same ∙ ap (λ (n : ℕ). scaled_first k n rest) (let n : o ≡ p = omega (arith, is) in n)

-- the first one leaves the ring
pub holds_after : (s : Settings) (pages : List (List ℕ)) (c : ℕ) (lane : Lane) (first : Admitted) (later : List Admitted) → lane.first < size_of (ring_of s c lane) → lane.used ≤ size_of (ring_of s c lane) → LaneHolds s pages c lane (first ∷ later)
    → LaneHolds s pages c (lane_popped s c lane first) later
holds_after s pages c lane first later start used h = go h.stored h.represents h.moments
  where
    go : (stored : List Admitted) → RingRepresents pages (ring_of s c lane) stored → first ∷ later ≡ scaled_first (moments_in Seconds) (older_of lane (length stored)) stored → LaneHolds s pages c (lane_popped s c lane first) later
    go [] r e = absurd (none (older_of lane 0) e)
      where
        none : (n : ℕ) → first ∷ later ≡ scaled_first (moments_in Seconds) n [] → ⊥
        none zero e = cc
        none (suc n) e = cc
    go (x ∷ rest) r e =
        let k = moments_in Seconds in
        let o = older_of lane (suc (length rest)) in
        let same : length (entry first) ≡ length (entry x) = head_of k o x first rest later e in
        let popped = holds_popped pages (ring_of s c lane) x rest start used r in
        record {
          valid = h.valid.1;
          stored = rest;
          represents = subst (λ (n : ℕ). RingRepresents pages (record (ring_of s c lane) { first = wrapped (size_of (ring_of s c lane)) (lane.first + n); used = lane.used - n }) rest) (sym same) popped;
          moments = tail_of k o (older_of lane (length rest)) x first rest later (omega arith) e;
        }
