use Rattle.std.proofs.Common.{◌≡◌, ◌↔◌, ◌≤◌, List}
use Rattle.version_model.specs.Versions.{Version}
use Rattle.version_model.specs.Ranges.{IsPoint, range_of}
use Rattle.once_store.specs.Readers.{capacity_of, reader_disk}
use Rattle.tsb_walk.specs.Inside.{CachesInside}
use Rattle.tsb_walk.specs.BlockWays.{AreKnownTo, BlockWay}
use Rattle.tsb_walk.specs.Knowing.{ReadsWell, RepresentsKnown}
use Rattle.tsb_walk.proofs.walk.leaf_place.Given as goal

abbrev pub invariant-loop-at : goal.invariant-loop-at
invariant-loop-at g l = record {
  point : IsPoint (range_of l.at.bounds) l.key l.stamp;
  low : l.at.part.block ≤ l.initial.at.part.block;
  walked : ReadsWell g.O.OnceDisk l.initial.reader l.initial.seen → AreKnownTo (g.O.OnceDisk.known l.initial.seen) (g.O.OnceDisk.block_count (reader_disk l.initial.reader)) l.initial.at.part.block
      → BlockWay (g.O.OnceDisk.known l.initial.seen) (g.O.OnceDisk.block_count (reader_disk l.initial.reader)) l.key l.stamp l.initial.at l.at × ReadsWell g.O.OnceDisk l.reader l.seen;
  represents_all : (all : List Version) → RepresentsKnown g.O.OnceDisk l.initial.reader l.initial.seen all l.initial.at → RepresentsKnown g.O.OnceDisk l.reader l.seen all l.at;
  inside : CachesInside g.O.OnceDisk l.initial.reader → CachesInside g.O.OnceDisk l.reader;
  same : g.O.OnceDisk.honest_seen (reader_disk l.initial.reader) l.initial.seen → g.O.OnceDisk.known l.seen ≡ g.O.OnceDisk.known l.initial.seen;
  disk : reader_disk l.reader ≡ reader_disk l.initial.reader;
  capacity : capacity_of l.reader ≡ capacity_of l.initial.reader;
  honest : g.O.OnceDisk.honest_seen (reader_disk l.initial.reader) l.initial.seen ↔ g.O.OnceDisk.honest_seen (reader_disk l.initial.reader) l.seen;
  faults : g.O.OnceDisk.seen_fault_count l.seen ≡ g.O.OnceDisk.seen_fault_count l.initial.seen;
}

abbrev pub decreases-loop-at : goal.decreases-loop-at
decreases-loop-at g l = l.at.part.block
