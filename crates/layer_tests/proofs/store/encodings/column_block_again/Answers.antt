use Rattle.tsb_node.proofs.api.Writing.{old_column_can}
use Rattle.layer_tests.proofs.store.encodings.column_block_again.Goals as goal

pub write_old_column-requires : goal.write_old_column-requires
write_old_column-requires c = rw c.deref.ensures.value (record { in_block = c.in-Ok.ensures.column.ended; valid = old_column_can _ c.in-Ok.ensures.column.valid })
