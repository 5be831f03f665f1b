use Rattle.std.proofs.Common.{◌≡◌, ◌+◌, ◌*◌, ◌≤◌, drop}
use Rattle.bgp_update.specs.Joining.{count}
use Rattle.bgp_update.proofs.joining.count_of.Given as goal

abbrev pub invariant-loop-s : goal.invariant-loop-s
invariant-loop-s l = record {
  total : l.sum + count (drop l.s-index l.path) ≡ count l.path;
  few : l.sum ≤ 255 * l.s-index;
}
