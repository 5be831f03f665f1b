use Rattle.std.proofs.Common.{◌≡◌, ◌++◌, drop}
use Rattle.version_model.specs.Entries.{versions_of}
use Rattle.tsb_node.specs.Leaves.{LeafNode, BeginsAsLeaf}
use Rattle.tsb_node.specs.inner.Reading.{after, area}
use Rattle.tsb_node.proofs.leaf_entries.entries_in.Given as goal

abbrev pub invariant-loop : goal.invariant-loop
invariant-loop l = record {
  there : l.rest ≡ after l.counter (area l.octets);
  kept : (leaf : LeafNode) → BeginsAsLeaf leaf l.octets → versions_of l.kept.items ++ drop l.counter leaf.versions ≡ leaf.versions;
}
