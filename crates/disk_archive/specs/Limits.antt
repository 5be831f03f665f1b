-- What is too much for an archive.
use Rattle.std.specs.Prelude.{◌≡◌, ◌<◌, ℕ, ◌+◌, ◌*◌, List, [], Some, slice_get}
use Rattle.route_model.specs.Admission.{Admitted}
use Rattle.route_meaning.specs.Merged.{part}
use Rattle.route_meaning.specs.Holds.{admitted_time}
use Rattle.route_meaning.specs.History.{Intake, History, waiting}
use Rattle.sequencer.specs.Late.{timely}
use Rattle.intake.specs.Ring.{octets_for}
use Rattle.archive_pages.specs.declared.settings.Settings.{Settings}

-- this many more records can't be counted for the collector
pub record IsCounterFull (h : History) (c more : ℕ) : Type 0 where
  pub intake : Intake
  pub here : slice_get h.intakes c ≡ Some intake
  pub above : 18446744073709551615 < intake.offered + more

-- What isn't late of the batch takes more octets than are free in the collector's ring.
pub record IsRingFull (s : Settings) (h : History) (c : ℕ) (batch : List Admitted) : Type 0 where
  pub intake : Intake
  pub here : slice_get h.intakes c ≡ Some intake
  pub above : 16384 * s.ring < octets_for (part c (waiting h)) + octets_for (timely admitted_time intake.mark [] batch)
