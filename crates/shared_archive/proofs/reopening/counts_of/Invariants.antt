use Rattle.std.proofs.Common.{◌≡◌, ◌<◌, ℕ, length, Some}
use Rattle.std.specs.List.{slice_get}
use Rattle.board.specs.Past.{Past, count_of}
use Rattle.shared_archive.specs.Represented.{RepresentsPast}
use Rattle.shared_archive.proofs.reopening.counts_of.Given as goal

abbrev pub invariant-loop-collector : goal.invariant-loop-collector
invariant-loop-collector g l = record {
  number : length l.counts.items ≡ l.collector;
  each : (p : Past) → RepresentsPast l.archive p → (c : ℕ) → c < l.collector → slice_get l.counts.items c ≡ Some (count_of p.history c);
}
