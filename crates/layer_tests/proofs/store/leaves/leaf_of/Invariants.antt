use Rattle.std.proofs.Common.{◌≤◌, ◌*◌}
use Rattle.version_model.specs.Sizes.{octets}
use Rattle.layer_tests.proofs.store.leaves.leaf_of.Given as goal

abbrev pub invariant-loop-row : goal.invariant-loop-row
invariant-loop-row l = octets l.leaf ≤ 60 * l.row-index
