use Rattle.tsb_node.proofs.api.Writing.{leaf_can}
use Rattle.layer_tests.proofs.store.encodings.leaf_again.Goals as goal

pub write_leaf-requires : goal.write_leaf-requires
write_leaf-requires c = rw c.deref.ensures.value (record { valid = leaf_can _ c.in-Ok.ensures.leaf.valid; current = c.in-Ok.ensures.leaf.current })
