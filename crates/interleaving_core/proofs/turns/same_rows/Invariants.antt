use Rattle.std.proofs.Common.{◌≡◌, take}
use Rattle.interleaving_core.proofs.turns.same_rows.Given as goal

abbrev pub invariant-loop-row : goal.invariant-loop-row
invariant-loop-row l = l.same.items ≡ take l.row-index l.rows
