use Rattle.std.proofs.Common.{◌-◌}
use Rattle.tsb_node.proofs.KeyNodeLaws.{IsBetween}
use Rattle.tsb_node.proofs.key_node.child_before.Given as goal

abbrev pub invariant-loop-first : goal.invariant-loop-first
invariant-loop-first l = IsBetween l.count l.key l.area l.first l.end

abbrev pub decreases-loop-first : goal.decreases-loop-first
decreases-loop-first l = l.end - l.first
