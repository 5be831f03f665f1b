use Rattle.std.proofs.Common.{take}
use Rattle.version_model.specs.Entries.{versions_of}
use Rattle.tsb_node.specs.Leaves.{IsLeafPage}
use Rattle.tsb_node.proofs.leaf_writing.write_leaf.Given as goal

abbrev pub invariant-loop-entry : goal.invariant-loop-entry
invariant-loop-entry l = IsLeafPage (record { bounds = l.bounds; versions = take l.entry-index (versions_of l.entries) }) l.page
