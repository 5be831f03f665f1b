use Rattle.std.proofs.Common.{◌≡◌, ◌+◌, ◌≤◌, length}
use Rattle.tsb_node.specs.Leaves.{LeafNode, BeginsAsLeaf}
use Rattle.tsb_node.specs.inner.Reading.{after, area}
use Rattle.tsb_node.proofs.SplittingLaws.{HasCopied}
use Rattle.tsb_node.proofs.leaf_splitting.copy_within.Given as goal

abbrev pub invariant-loop : goal.invariant-loop
invariant-loop g l = (l.at + length l.rest ≤ 16352) × (120 ≤ l.at) × (l.kept ≤ l.counter) × (l.rest ≡ after l.counter (area l.octets)) × ((leaf : LeafNode) → BeginsAsLeaf leaf l.octets → HasCopied leaf l.bounds l.counter l.at l.kept l.fresh)
