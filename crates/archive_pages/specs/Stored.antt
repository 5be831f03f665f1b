-- What a ring holds for what waits: the times of the first admissions may be in an older unit.
use Rattle.std.specs.Prelude.{◌≡◌, ℕ, zero, suc, ◌*◌, ◌-◌, List, [], ◌∷◌, length}
use Rattle.std.specs.List.{AllByRecursion}
use Rattle.route_model.specs.Admission.{Admitted, IsAdmission}
use Rattle.route_model.specs.declared.unit.Unit.TheVariants.{Seconds}
use Rattle.route_model.specs.Units.{moments_in}
use Rattle.archive_head.specs.declared.lane.Lane.{Lane}
use Rattle.intake.specs.Ring.{RingRepresents}
use Rattle.archive_pages.specs.declared.settings.Settings.{Settings}
use Rattle.archive_pages.specs.Places.{ring_of}

-- an admission at its moment, whose time is in a unit of this number of moments
abbrev pub scaled_admission : ℕ → Admitted → Admitted
scaled_admission moments a = record { time = a.time * moments; changes = a.changes }

-- the first n are in such a unit
abbrev pub scaled_first : ℕ → ℕ → List Admitted → List Admitted
scaled_first moments zero xs = xs
scaled_first moments (suc n) [] = []
scaled_first moments (suc n) (a ∷ xs) = scaled_admission moments a ∷ scaled_first moments n xs

-- the same of times alone
abbrev pub scaled_times : ℕ → ℕ → List ℕ → List ℕ
scaled_times moments zero ts = ts
scaled_times moments (suc n) [] = []
scaled_times moments (suc n) (t ∷ ts) = t * moments ∷ scaled_times moments n ts

-- of the last n admissions of a collector, how many have a lower number than the first that is written in moments
abbrev pub older_of : Lane → ℕ → ℕ
older_of lane n = n - (lane.admitted - lane.since)

-- These admissions wait: the collector's ring holds them, the older ones of them in another unit.
pub record LaneHolds (s : Settings) (pages : List (List ℕ)) (c : ℕ) (lane : Lane) (waits : List Admitted) : Type 0 where
  pub valid : AllByRecursion IsAdmission waits
  pub stored : List Admitted
  pub represents : RingRepresents pages (ring_of s c lane) stored
  pub moments : waits ≡ scaled_first (moments_in Seconds) (older_of lane (length stored)) stored
