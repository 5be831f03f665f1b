-- What is too much for an archive.
use Rattle.std.specs.Prelude.{ℕ, List, [], ◌∷◌, ◌+◌, ◌≡◌, ◌<◌, length, Some, slice_get}
use Rattle.route_model.specs.Admission.{Admitted, admission_octets}
use Rattle.route_meaning.specs.History.{Intake, History}

-- the length of a batch in octets: for each admission that of its encoding, and 4
abbrev pub batch_octets : List Admitted → ℕ
batch_octets [] = 0
batch_octets (a ∷ batch) = 4 + length (admission_octets a) + batch_octets batch

-- this many more records can't be counted for the collector
pub record IsCounterFull (h : History) (c more : ℕ) : Type 0 where
  pub intake : Intake
  pub here : slice_get h.intakes c ≡ Some intake
  pub above : 18446744073709551615 < intake.offered + more
