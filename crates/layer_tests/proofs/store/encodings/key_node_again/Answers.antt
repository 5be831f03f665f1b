use Rattle.tsb_node.proofs.api.Writing.{key_node_can}
use Rattle.layer_tests.proofs.store.encodings.key_node_again.Goals as goal

pub write_key_node-requires : goal.write_key_node-requires
write_key_node-requires c = rw c.deref.ensures.value (record { current = c.in-Ok.ensures.key_node.current; valid = key_node_can _ c.in-Ok.ensures.key_node.valid })
