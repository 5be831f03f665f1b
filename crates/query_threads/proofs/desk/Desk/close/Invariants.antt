use Rattle.std.proofs.Common.{◌≡◌, ◌++◌, List, length}
use Rattle.std.specs.List.{AllByRecursion}
use Rattle.board.specs.Views.{View, IsFrontOf}
use Rattle.query_threads.proofs.desk.Desk.close.Given as goal

abbrev pub invariant-loop-pass : goal.invariant-loop-pass
invariant-loop-pass g l = (rest : List View) × (l.initial.passes.items ≡ l.passes.items ++ rest) × AllByRecursion (IsFrontOf l.self.past) rest

abbrev pub decreases-loop-pass : goal.decreases-loop-pass
decreases-loop-pass g l = length l.passes.items
