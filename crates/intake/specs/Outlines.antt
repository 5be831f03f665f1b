-- What stands in a ring's own octets, whether these are a list of admissions or not.
use Rattle.std.specs.Prelude.{◌≡◌, ◌<◌, ◌≤◌, ℕ, ◌+◌, ◌/◌, List, [], ◌∷◌, ◌++◌, length, map, flat_map}
use Rattle.std.specs.List.{AllByRecursion}
use Rattle.std.specs.Int.{w64, to_be_bytes}
use Rattle.route_model.specs.Admission.{Admitted, IsAdmission}
use Rattle.route_model.specs.Moments.{IsMoment}
use Rattle.intake.specs.declared.ring.Ring.{Ring}
use Rattle.intake.specs.Ring.{sized, entry, octets_for, wrapped, size_of, HasOctets}

-- the page of a place, which is counted from the first octet that is used
abbrev pub page_of : Ring → ℕ → ℕ
page_of ring at = ring.low + wrapped (size_of ring) (ring.first + at) / 16384

-- The admission is the first: the used octets begin with its entry.
pub record IsFirst (pages : List (List ℕ)) (ring : Ring) (a : Admitted) : Type 0 where
  pub valid : IsAdmission a
  pub fits : length (entry a) ≤ ring.used
  pub octets : HasOctets pages ring (entry a)

-- an entry of which only the length and the time are looked at: the time, and the octets after it
pub record Outline : Type 0 where
  pub time : ℕ
  pub more : List ℕ

-- its octets
abbrev pub outlined : Outline → List ℕ
outlined o = sized (to_be_bytes w64 o.time ++ o.more)

-- its time
abbrev pub time_in : Outline → ℕ
time_in o = o.time

-- the time is a moment, and the octets are no more than those of an admission's encoding may be
pub record IsOutline (o : Outline) : Type 0 where
  pub time : IsMoment o.time
  pub small : 8 + length o.more ≤ 131072

-- The octets from the first used one up to a place are entries, one after another, with these times.
pub record ReportsTimes (pages : List (List ℕ)) (ring : Ring) (at : ℕ) (times : List ℕ) : Type 0 where
  pub entries : List Outline
  pub valid : AllByRecursion IsOutline entries
  pub reported : times ≡ map time_in entries
  pub place : length (flat_map outlined entries) ≡ at
  pub octets : HasOctets pages ring (flat_map outlined entries)

-- Up to this place, where octets are used still, entries stand, and there no further one stands within the used octets.
pub record BreaksAt (pages : List (List ℕ)) (ring : Ring) (at : ℕ) : Type 0 where
  pub times : List ℕ
  pub before : ReportsTimes pages ring at times
  pub inside : at < ring.used
  pub none : (time next : ℕ) → next ≤ ring.used → ReportsTimes pages ring next (times ++ time ∷ []) → ⊥

-- These admissions stand one after another from the first used octet on, and no further one within the used octets, though some are left.
-- It would begin on this page.
pub record BreaksOn (pages : List (List ℕ)) (ring : Ring) (page : ℕ) : Type 0 where
  pub before : List Admitted
  pub valid : AllByRecursion IsAdmission before
  pub octets : HasOctets pages ring (flat_map entry before)
  pub inside : octets_for before < ring.used
  pub none : (a : Admitted) → IsAdmission a → octets_for (before ++ a ∷ []) ≤ ring.used → HasOctets pages ring (flat_map entry (before ++ a ∷ [])) → ⊥
  pub place : page ≡ page_of ring (octets_for before)
