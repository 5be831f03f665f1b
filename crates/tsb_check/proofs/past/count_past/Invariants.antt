use Rattle.std.proofs.Common.{◌≡◌, ◌↔◌, ◌⊎◌}
use Rattle.once_store.specs.Readers.{capacity_of, reader_disk}
use Rattle.tsb_walk.specs.Knowing.{ReadsWell}
use Rattle.tsb_check.specs.Counted.{MeetUnknown}
use Rattle.tsb_check.specs.inner.Going.{GoesOn}
use Rattle.tsb_check.specs.inner.Reported.{weight}
use Rattle.tsb_check.proofs.past.count_past.Given as goal

abbrev pub invariant-loop-place : goal.invariant-loop-place
invariant-loop-place g l = record {
  went : ReadsWell g.O.OnceDisk l.initial.reader l.initial.seen
      → (ReadsWell g.O.OnceDisk l.reader l.seen × GoesOn (g.O.OnceDisk.known l.initial.seen) (g.O.OnceDisk.block_count (reader_disk l.initial.reader)) l.initial.left.items l.left.items l.count)
      ⊎ MeetUnknown (g.O.OnceDisk.known l.initial.seen) (g.O.OnceDisk.block_count (reader_disk l.initial.reader)) l.initial.left.items;
  same : g.O.OnceDisk.honest_seen (reader_disk l.initial.reader) l.initial.seen → g.O.OnceDisk.known l.seen ≡ g.O.OnceDisk.known l.initial.seen;
  disk : reader_disk l.reader ≡ reader_disk l.initial.reader;
  capacity : capacity_of l.reader ≡ capacity_of l.initial.reader;
  honest : g.O.OnceDisk.honest_seen (reader_disk l.initial.reader) l.initial.seen ↔ g.O.OnceDisk.honest_seen (reader_disk l.initial.reader) l.seen;
  faults : g.O.OnceDisk.seen_fault_count l.seen ≡ g.O.OnceDisk.seen_fault_count l.initial.seen;
}

abbrev pub decreases-loop-place : goal.decreases-loop-place
decreases-loop-place g l = weight l.left.items
