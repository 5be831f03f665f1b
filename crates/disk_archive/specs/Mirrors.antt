-- What an archive keeps in memory of the history that its disks represent.
use Rattle.std.specs.Prelude.{◌≡◌, List, map, length}
use Rattle.route_meaning.specs.Merged.{parts}
use Rattle.route_meaning.specs.Holds.{admitted_time}
use Rattle.route_meaning.specs.History.{History, waiting}
use Rattle.sequencer.specs.Lanes.{Waiting, marks, waiting_times}

-- the lanes are those of the history: each collector's mark, and the times of its admissions that wait
pub record Mirrors (lanes : List Waiting) (h : History) : Type 0 where
  pub marks : marks lanes ≡ map (λ i. i.mark) h.intakes
  pub times : waiting_times lanes ≡ map (map admitted_time) (parts 0 (length h.intakes) (waiting h))
