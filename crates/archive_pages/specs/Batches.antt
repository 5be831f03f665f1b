-- What a batch adds to an archive.
use Rattle.std.specs.Prelude.{◌≡◌, ◌<◌, ◌≤◌, ℕ, ◌+◌, ◌^◌, List, [], length, map, slice_get, Some}
use Rattle.route_model.specs.Admission.{Admitted}
use Rattle.route_meaning.specs.Holds.{admitted_time}
use Rattle.sequencer.specs.Late.{greatest, timely}
use Rattle.archive_head.specs.declared.lane.Lane.{Lane}
use Rattle.archive_head.specs.Head.{Contents}
use Rattle.intake.specs.Ring.{entry, octets_for, size_of, IsRing}
use Rattle.archive_pages.specs.declared.settings.Settings.{Settings}
use Rattle.archive_pages.specs.Places.{ring_of}

-- what is kept of a batch: those of its admissions that aren't late, how many were offered, and the mark after them
pub record Kept : Type 0 where
  pub timely : List Admitted
  pub offered : ℕ
  pub mark : ℕ

-- it is what is kept of this batch where the mark before was this one
pub record IsKeptOf (before : ℕ) (batch : List Admitted) (kept : Kept) : Type 0 where
  pub items : kept.timely ≡ timely admitted_time before [] batch
  pub count : kept.offered ≡ length batch
  pub mark : kept.mark ≡ greatest before (map admitted_time batch)

-- this is what the head keeps of a collector
abbrev pub HasLane : Contents → ℕ → Lane → Type 0
HasLane head c lane = slice_get head.lanes c ≡ Some lane

-- what the head keeps of a collector once its ring took what is kept of a batch
abbrev pub lane_with : Lane → Kept → Lane
lane_with lane kept = record lane {
  offered = lane.offered + kept.offered;
  admitted = lane.admitted + length kept.timely;
  mark = kept.mark;
  used = lane.used + octets_for kept.timely;
}

-- The collector's ring lies in a map of `homes` pages, and its counts have room for the batch.
pub record CanTake (homes : ℕ) (s : Settings) (c : ℕ) (lane : Lane) (kept : Kept) : Type 0 where
  pub ring : IsRing homes (ring_of s c lane)
  pub offered : lane.offered + kept.offered < 2 ^ 64
  pub admitted : lane.admitted + length kept.timely < 2 ^ 64

-- The ring of which the head keeps this can lose an admission of this size at its front.
pub record CanPop (s : Settings) (c : ℕ) (lane : Lane) (a : Admitted) : Type 0 where
  pub start : lane.first < size_of (ring_of s c lane)
  pub used : lane.used ≤ size_of (ring_of s c lane)
  pub fits : length (entry a) ≤ lane.used
