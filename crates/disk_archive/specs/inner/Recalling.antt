-- What is known again of collectors, one after another.
use Rattle.std.specs.Prelude.{◌≡◌, ◌<◌, ◌≤◌, ⊤, ℕ, List, [], length, map, Some, slice_get}
use Rattle.route_model.specs.Admission.{Admitted}
use Rattle.sequencer.specs.Lanes.{Waiting, marks, waiting_times}
use Rattle.archive_head.specs.declared.lane.Lane.{Lane}
use Rattle.archive_head.specs.Head.{Contents}
use Rattle.intake.specs.Ring.{time_of}
use Rattle.archive_pages.specs.declared.settings.Settings.{Settings}
use Rattle.archive_pages.specs.Places.{tree_low}
use Rattle.archive_pages.specs.Stored.{LaneHolds}
use Rattle.disk_archive.specs.declared.open_error.OpenError.{OpenError}
use Rattle.disk_archive.specs.declared.open_error.OpenError.TheVariants as openings

-- a page may be damaged, the device fail, or memory be refused
abbrev pub RecallRefusal : OpenError → Type 0
RecallRefusal openings.Fault = ⊤
RecallRefusal openings.OutOfMemory = ⊤
RecallRefusal openings.NotAJournal = ⊥
RecallRefusal (openings.BadSlot page) = ⊥
RecallRefusal (openings.BadNode page) = ⊤

-- the head names one of the tree's pages as its root, and one that was used
pub record HasRoot (homes : ℕ) (s : Settings) (head : Contents) : Type 0 where
  pub low : tree_low s ≤ head.root
  pub used : head.root < head.fresh
  pub inside : head.root < homes

-- nothing is known of the collector: its mark is 0, and nothing waits
pub record IsUnknown (lanes : List Waiting) (c : ℕ) : Type 0 where
  pub mark : slice_get (marks lanes) c ≡ Some 0
  pub times : slice_get (waiting_times lanes) c ≡ Some []

-- Of as many collectors as the head has, the first ones have the marks that the head gives, and nothing is known of the others.
pub record KnowsMarks (reported : List Lane) (lanes : List Waiting) (known : ℕ) : Type 0 where
  pub count : length lanes ≡ length reported
  pub marks : (c : ℕ) (lane : Lane) → c < known → slice_get reported c ≡ Some lane → slice_get (marks lanes) c ≡ Some lane.mark
  pub others : (c : ℕ) → known ≤ c → c < length reported → IsUnknown lanes c

-- of the first collectors these times wait, if their rings hold what waits
abbrev pub KnowsTimes : Settings → List Lane → List (List ℕ) → List Waiting → ℕ → Type 0
KnowsTimes s reported shown lanes known = (c : ℕ) (lane : Lane) (waits : List Admitted) → c < known → slice_get reported c ≡ Some lane → LaneHolds s shown c lane waits → slice_get (waiting_times lanes) c ≡ Some (map time_of waits)
