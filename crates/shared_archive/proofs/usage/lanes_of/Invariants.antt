use Rattle.std.proofs.Common.{◌≡◌, ℕ, length, map, Some}
use Rattle.std.specs.List.{slice_get}
use Rattle.board.specs.Past.{Past}
use Rattle.interleaving_core.specs.World.{resume_of}
use Rattle.query_threads.specs.declared.usage.Lane.{Lane}
use Rattle.shared_archive.specs.Represented.{RepresentsPast}
use Rattle.shared_archive.proofs.usage.lanes_of.Given as goal

abbrev pub invariant-loop-collector : goal.invariant-loop-collector
invariant-loop-collector g l = record {
  number : length l.lanes.items ≡ l.collector;
  each : (p : Past) → RepresentsPast l.archive p → (c : ℕ) (lane : Lane) → slice_get l.lanes.items c ≡ Some lane → slice_get (map resume_of p.history.intakes) c ≡ Some lane.resume;
}
