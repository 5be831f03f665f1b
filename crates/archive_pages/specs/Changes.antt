-- What the calls of an archive change of its head.
use Rattle.std.specs.Prelude.{ℕ, ◌+◌, ◌-◌, ◌++◌, List, [], length, map, take, drop, slice_set}
use Rattle.route_model.specs.Admission.{Admitted}
use Rattle.route_meaning.specs.Merged.{Placed}
use Rattle.route_meaning.specs.Holds.{admitted_time, time_of}
use Rattle.sequencer.specs.Late.{greatest, timely}
use Rattle.version_model.specs.Versions.{Version}
use Rattle.route_history.specs.Kept.{Timed, at_time, AreVersions}
use Rattle.route_history.specs.Stamps.{stamp_of}
use Rattle.archive_head.specs.declared.lane.Lane.{Lane}
use Rattle.archive_head.specs.Head.{Contents}
use Rattle.intake.specs.Ring.{entry, size_of, wrapped}
use Rattle.archive_pages.specs.declared.settings.Settings.{Settings}
use Rattle.archive_pages.specs.Places.{ChangesFrom, ring_of, tree_low}
use Rattle.archive_pages.specs.Represented.{TreeOn, last_time}

-- the head with another lane of a collector
abbrev pub with_lane : Contents → ℕ → Lane → Contents
with_lane head c lane = record head { lanes = slice_set head.lanes c lane }

-- what the head keeps of a collector after a batch: its ring uses `used` octets then
abbrev pub lane_given : Lane → ℕ → List Admitted → ℕ → Lane
lane_given lane mark batch used = record lane {
  offered = lane.offered + length batch;
  admitted = lane.admitted + length (timely admitted_time mark [] batch);
  mark = greatest mark (map admitted_time batch);
  used = used;
}

-- the same once the first admission is gone from the ring
abbrev pub lane_popped : Settings → ℕ → Lane → Admitted → Lane
lane_popped s c lane a = record lane { first = wrapped (size_of (ring_of s c lane)) (lane.first + length (entry a)); used = lane.used - length (entry a) }

-- the change that is applied next where the first `some` of the admission are: none if it has no other
abbrev pub next_change : ℕ → Placed Admitted → List Timed
next_change some p = map (at_time (time_of p)) (take 1 (drop some p.item.changes))

-- the head once the next change, if any, is applied
abbrev pub head_moved : Contents → ℕ → Placed Admitted → ℕ → ℕ → ℕ → ℕ → List Lane → Contents
head_moved head some next begun fresh block root lanes = record {
  applied = head.applied + length (next_change some next);
  last = last_time head.last (next_change some next);
  begun = begun;
  fresh = fresh;
  block = block;
  root = root;
  lanes = lanes;
}

-- The tree took the versions of the next change, if any, and no page before its own is changed.
pub record Takes (Tree : TreeOn) (s : Settings) (settled : ℕ → List ℕ → Type 0) (head after : Contents) (some : ℕ) (next : Placed Admitted) (before : List Version) (old new : List (List ℕ)) : Type 0 where
  pub more : List Version
  pub versions : AreVersions head.applied (next_change some next) more
  pub changes : ChangesFrom (tree_low s) old new
  pub tree : Tree new settled (tree_low s) after.root after.fresh after.block (stamp_of after.last after.applied) (before ++ more)
