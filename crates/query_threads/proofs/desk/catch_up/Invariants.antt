use Rattle.std.proofs.Common.{◌≡◌, ℕ, ◌≤◌}
use Rattle.std.specs.Prelude.{slice_index, IsSome}
use Rattle.board.specs.Past.{reach}
use Rattle.board.specs.Views.{Within}
use Rattle.query_threads.proofs.desk.catch_up.Given as goal

abbrev pub invariant-loop-c : goal.invariant-loop-c
invariant-loop-c g l = record {
  past : l.writer.past ≡ l.fn.writer.past;
  raised : IsSome g.N.OnDisk.disk → (i : ℕ) → i ≤ l.c → reach l.writer.past.history i ≤ slice_index l.writer.numbers i;
  rises : Within l.fn.writer.numbers l.writer.numbers;
}
