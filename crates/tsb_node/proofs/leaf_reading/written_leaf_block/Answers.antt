use Rattle.tsb_node.specs.Leaves.{entries}
use Rattle.tsb_node.proofs.LeafReading.{leaf_header, leaf_block, block_of, of_block, some_leaf, none_leaf}
use Rattle.tsb_node.proofs.leaf_reading.written_leaf_block.Goals as goal

pub returns-in_default-clause-none : goal.returns-in_default-clause-none
returns-in_default-clause-none c = λ leaf is. absurd (c.in_default.ensures.none (leaf_header is.unit leaf) (entries leaf.versions) (leaf_block leaf c.args.block.now is))

pub leaf_bounds-requires : goal.leaf_bounds-requires
leaf_bounds-requires c = record { node = c.in-Some.ensures.found.valid }

pub returns-clause-found : goal.returns-clause-found
returns-clause-found c =
    some_leaf c.leaf_bounds.result _ _ (λ leaf of. block_of c.in-Some.header c.in-Some.entries.now c.args.block.now leaf c.in-Some.ensures.found of) c.leaf_bounds.ensures.found

pub returns-clause-none : goal.returns-clause-none
returns-clause-none c =
    none_leaf c.leaf_bounds.result _ _ (λ leaf is. of_block c.in-Some.header c.in-Some.entries.now c.args.block.now leaf c.in-Some.ensures.found is) c.leaf_bounds.ensures.none
