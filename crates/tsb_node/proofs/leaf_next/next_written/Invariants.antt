use Rattle.std.proofs.Common.{◌^◌, ◌-◌, ◌≤◌}
use Rattle.version_model.specs.Looks.{NoneWithin}
use Rattle.tsb_node.specs.Leaves.{LeafNode, BeginsAsWrittenLeaf}
use Rattle.tsb_node.proofs.leaf_next.next_written.Given as goal

abbrev pub invariant-loop-least : goal.invariant-loop-least
invariant-loop-least l = record {
  dead : (leaf : LeafNode) → BeginsAsWrittenLeaf leaf l.octets → NoneWithin leaf.versions l.stamp l.initial.from l.from;
  onward : l.initial.from ≤ l.from;
}

abbrev pub decreases-loop-least : goal.decreases-loop-least
decreases-loop-least l = 256 ^ 40 - l.from
