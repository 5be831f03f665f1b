use Rattle.std.proofs.Common.{◌≡◌, take}
use Rattle.std.specs.List.{AllByRecursion}
use Rattle.tsb_node.specs.Leaves.{LeafNode, BeginsAsWrittenLeaf}
use Rattle.tsb_node.specs.inner.Fresh.{StampFits}
use Rattle.tsb_node.specs.inner.Reading.{after, area}
use Rattle.tsb_node.proofs.leaf_reading.times_fit.Given as goal

abbrev pub invariant-loop : goal.invariant-loop
invariant-loop l = record {
  there : l.rest ≡ after l.counter (area l.octets);
  fit : (leaf : LeafNode) → BeginsAsWrittenLeaf leaf l.octets → AllByRecursion (StampFits l.k) (take l.counter leaf.versions);
}
