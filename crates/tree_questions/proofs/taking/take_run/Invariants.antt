use Rattle.std.proofs.Common.{◌≡◌, ℕ, List, Some}
use Rattle.std.specs.Vec.Iter.{into_iter_items}
use Rattle.route_model.specs.Admission.{Admitted}
use Rattle.route_meaning.specs.Merged.{Placed}
use Rattle.version_model.specs.Ranges.{high_or}
use Rattle.version_model.specs.Versions.{Version}
use Rattle.tsb_runs.specs.Runs.{AreLive, IsRun}
use Rattle.route_history.specs.Fronts.{front_number}
use Rattle.route_history.specs.Stamps.{last_stamp}
use Rattle.route_history.specs.Walks.{Reports, Gathered}
use Rattle.tree_questions.specs.inner.Taking.{IsOnward, IsFrom}
use Rattle.tree_questions.proofs.taking.take_run.Given as goal

abbrev pub invariant-loop-row : goal.invariant-loop-row
invariant-loop-row l = record {
  question : l.cursor.question ≡ l.fn.cursor.question;
  onward : IsOnward (front_number l.fn.cursor.front) (front_number l.cursor.front);
  taken : (from : ℕ) (all : List Version) (ps : List (Placed Admitted)) → IsOnward (Some from) (front_number l.fn.cursor.front) → Reports all ps l.fn.cursor.question.moment → Gathered all ps l.fn.cursor
      → IsRun all (last_stamp l.fn.cursor.question.moment) from l.fn.run
      → (at : ℕ) × IsFrom at l.last (front_number l.cursor.front) × Gathered all ps l.cursor × AreLive all (last_stamp l.fn.cursor.question.moment) at (high_or l.fn.run.high) (into_iter_items l.row-iterator);
}
