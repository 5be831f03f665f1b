use Rattle.std.proofs.Common.{◌≡◌, ◌++◌, take}
use Rattle.interleaving_core.specs.Turns.{rows_up_to}
use Rattle.interleaving_core.proofs.turns.add_up_to.Given as goal

abbrev pub invariant-loop-row : goal.invariant-loop-row
invariant-loop-row l = l.rows.items ≡ l.initial.rows.items ++ rows_up_to l.spot (take l.row-index l.left)
