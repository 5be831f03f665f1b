use Rattle.std.proofs.Common.{◌≡◌, ◌≤◌, IfSome}
use Rattle.tsb_node.specs.Leaves.{LeafNode, BeginsAsWrittenLeaf}
use Rattle.tsb_node.specs.inner.Reading.{after, area}
use Rattle.tsb_node.proofs.Nexting.{LeastSo}
use Rattle.tsb_node.proofs.leaf_next.least_key.Given as goal

abbrev pub invariant-loop : goal.invariant-loop
invariant-loop l = record {
  there : l.rest ≡ after l.counter (area l.octets);
  least : (leaf : LeafNode) → BeginsAsWrittenLeaf leaf l.octets → LeastSo leaf.versions l.stamp l.from l.counter l.best;
  onward : IfSome l.best (λ key. l.from ≤ key);
}
