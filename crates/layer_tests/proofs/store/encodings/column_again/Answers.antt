use Rattle.tsb_node.proofs.api.Writing.{column_can}
use Rattle.layer_tests.proofs.store.encodings.column_again.Goals as goal

pub write_column-requires : goal.write_column-requires
write_column-requires c = rw c.deref.ensures.value (record { in_page = c.in-Ok.ensures.column.current; valid = column_can _ c.in-Ok.ensures.column.valid })
