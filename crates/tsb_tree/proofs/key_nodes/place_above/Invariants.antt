use Rattle.std.proofs.Common.{◌≡◌, ◌<◌, ◌≤◌, ℕ, Some, slice_get}
use Rattle.version_model.specs.declared.child.Child.{Child}
use Rattle.tsb_tree.proofs.key_nodes.place_above.Given as goal

abbrev pub invariant-loop-i : goal.invariant-loop-i
invariant-loop-i l = (j : ℕ) (c : Child) → j < l.i → slice_get l.children j ≡ Some c → c.low ≤ l.key
