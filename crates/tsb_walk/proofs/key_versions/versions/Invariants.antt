use Rattle.std.proofs.Common.{◌≡◌, ◌↔◌, ◌-◌, ℕ, List, filter}
use Rattle.once_store.specs.Readers.{capacity_of, reader_disk}
use Rattle.page_tx.specs.Start.{Start}
use Rattle.version_model.specs.Versions.{Version, IsRising}
use Rattle.version_model.specs.Ranges.{stamp_end}
use Rattle.version_model.specs.Looks.{is_of}
use Rattle.version_model.specs.Entries.{versions_of}
use Rattle.version_model.specs.Pages.{Store}
use Rattle.tsb_walk.specs.Inside.{CachesInside}
use Rattle.tsb_walk.specs.Knowing.{ReadsWell, AreKnown}
use Rattle.tsb_walk.specs.Refusals.{OnlyReads}
use Rattle.tsb_walk.specs.Shown.{RepresentsShown}
use Rattle.tsb_walk.proofs.key_versions.versions.Given as goal

abbrev pub invariant-loop-all : goal.invariant-loop-all
invariant-loop-all g l = record {
  pages : OnlyReads g.P.Pages l.initial.pages l.pages ⊥;
  reported : (start : Start) (shown : List (List ℕ)) → g.P.Pages.shows l.initial.pages start shown → (s : Store) (all : List Version) → IsRising all → RepresentsShown shown s all l.root
      → ReadsWell g.O.OnceDisk l.initial.reader l.initial.seen → AreKnown (g.O.OnceDisk.known l.initial.seen) (g.O.OnceDisk.block_count (reader_disk l.initial.reader)) s.blocks
      → versions_of l.all.items ≡ filter (is_of l.key 0 l.from) all;
  reads : (start : Start) (shown : List (List ℕ)) → g.P.Pages.shows l.initial.pages start shown → (s : Store) (all : List Version) → IsRising all → RepresentsShown shown s all l.root
      → ReadsWell g.O.OnceDisk l.initial.reader l.initial.seen → AreKnown (g.O.OnceDisk.known l.initial.seen) (g.O.OnceDisk.block_count (reader_disk l.initial.reader)) s.blocks
      → ReadsWell g.O.OnceDisk l.reader l.seen;
  inside : CachesInside g.O.OnceDisk l.initial.reader → CachesInside g.O.OnceDisk l.reader;
  known : g.O.OnceDisk.honest_seen (reader_disk l.initial.reader) l.initial.seen → g.O.OnceDisk.known l.seen ≡ g.O.OnceDisk.known l.initial.seen;
  disk : reader_disk l.reader ≡ reader_disk l.initial.reader;
  capacity : capacity_of l.reader ≡ capacity_of l.initial.reader;
  honest : g.O.OnceDisk.honest_seen (reader_disk l.initial.reader) l.initial.seen ↔ g.O.OnceDisk.honest_seen (reader_disk l.initial.reader) l.seen;
  faults : g.O.OnceDisk.seen_fault_count l.seen ≡ g.O.OnceDisk.seen_fault_count l.initial.seen;
}

abbrev pub decreases-loop-all : goal.decreases-loop-all
decreases-loop-all g l = stamp_end - l.from
