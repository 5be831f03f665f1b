use Rattle.std.proofs.Common.{◌≡◌, ◌≤◌, ℕ, List, Some}
use Rattle.std.specs.Vec.Iter.{into_iter_items}
use Rattle.route_model.specs.Admission.{Admitted}
use Rattle.route_meaning.specs.Merged.{Placed}
use Rattle.version_model.specs.Ranges.{high_or}
use Rattle.version_model.specs.Versions.{Version}
use Rattle.tsb_walk.specs.Touched.{AreTouched}
use Rattle.route_history.specs.Changes.{HasChangedSo, IsTaking, ReportsChanged, changed_end, changed_from}
use Rattle.route_history.proofs.changed.ChangedCursor.take_keys.Given as goal

abbrev pub invariant-loop-key : goal.invariant-loop-key
invariant-loop-key l = record {
  question : l.self.question ≡ l.initial.self.question;
  front : l.self.front ≡ l.initial.self.front;
  taking : (all : List Version) (ps : List (Placed Admitted)) (from : ℕ) → l.initial.self.front ≡ Some from → ReportsChanged all ps l.initial.self.question → HasChangedSo ps l.initial.self → from ≤ high_or l.high → AreTouched all (changed_from l.initial.self.question) (changed_end l.initial.self.question) from (high_or l.high) l.fn.keys.items
      → IsTaking all ps l.initial.self.question (high_or l.high) (into_iter_items l.key-iterator) l.self.spots.items l.self.more;
}
