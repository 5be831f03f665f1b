use Rattle.std.proofs.Common.{◌≡◌, ◌↔◌, ◌<◌, ◌≤◌, ◌-◌, ◌⊎◌, List}
use Rattle.once_store.specs.Readers.{capacity_of, reader_disk}
use Rattle.version_model.specs.Ranges.{high_or}
use Rattle.version_model.specs.Versions.{Version}
use Rattle.tsb_walk.specs.Inside.{CachesInside}
use Rattle.tsb_walk.specs.Refusals.{OnlyReads}
use Rattle.tree_questions.specs.Reading.{ReadsTree}
use Rattle.tree_questions.specs.inner.Gathered.{HasGathered}
use Rattle.tree_questions.proofs.touched.touched_keys.Given as goal

abbrev pub invariant-parts : goal.invariant-parts
invariant-parts g l = record {
  pages : OnlyReads g.P.Pages l.initial.pages l.pages ⊥;
  stays : (all : List Version) → ReadsTree g.P.Pages l.initial.pages g.O.OnceDisk l.initial.reader l.initial.seen l.root l.burnt all → ReadsTree g.P.Pages l.pages g.O.OnceDisk l.reader l.seen l.root l.burnt all;
  from : l.gathering.from ≡ l.fn.from;
  inside : l.gathering.from < high_or l.gathering.high;
  begun : l.fn.first ≤ l.gathering.at;
  upto : (l.gathering.at ≤ l.end) ⊎ (l.gathering.at ≡ l.fn.first);
  gathered : (all : List Version) → ReadsTree g.P.Pages l.initial.pages g.O.OnceDisk l.initial.reader l.initial.seen l.root l.burnt all → HasGathered all l.fn.first l.gathering;
  on_disk : CachesInside g.O.OnceDisk l.initial.reader → CachesInside g.O.OnceDisk l.reader;
  known : g.O.OnceDisk.honest_seen (reader_disk l.initial.reader) l.initial.seen → g.O.OnceDisk.known l.seen ≡ g.O.OnceDisk.known l.initial.seen;
  disk : reader_disk l.reader ≡ reader_disk l.initial.reader;
  capacity : capacity_of l.reader ≡ capacity_of l.initial.reader;
  honest : g.O.OnceDisk.honest_seen (reader_disk l.initial.reader) l.initial.seen ↔ g.O.OnceDisk.honest_seen (reader_disk l.initial.reader) l.seen;
  faults : g.O.OnceDisk.seen_fault_count l.seen ≡ g.O.OnceDisk.seen_fault_count l.initial.seen;
}

abbrev pub decreases-parts : goal.decreases-parts
decreases-parts g l = l.end - l.gathering.at
