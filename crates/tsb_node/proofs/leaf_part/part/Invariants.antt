use Rattle.std.proofs.Common.{◌≡◌, ◌++◌, drop, filter}
use Rattle.version_model.specs.Entries.{versions_of}
use Rattle.version_model.specs.Looks.{is_of}
use Rattle.version_model.specs.Ranges.{end_or}
use Rattle.tsb_node.specs.Leaves.{LeafNode, BeginsAsLeaf}
use Rattle.tsb_node.specs.inner.Reading.{after, area}
use Rattle.tsb_node.proofs.leaf_part.part.Given as goal

abbrev pub invariant-loop : goal.invariant-loop
invariant-loop l = record {
  there : l.rest ≡ after l.counter (area l.octets);
  kept : (leaf : LeafNode) → BeginsAsLeaf leaf l.octets → versions_of l.kept.items ++ filter (is_of l.key l.from (end_or l.end)) (drop l.counter leaf.versions) ≡ filter (is_of l.key l.from (end_or l.end)) leaf.versions;
}
