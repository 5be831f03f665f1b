use Rattle.std.proofs.Common.{◌≡◌, ◌<◌, [], rules, arith}
use Rattle.tsb_node.specs.Decoded.{decoded_column}
use Rattle.tree_tests.proofs.migration.columns.migrated.Goals as goal

pub migrate_column-requires : goal.migrate_column-requires
migrate_column-requires c =
    let said = c.in-Ok.said in
    let below : said.current.start < c.stamp_of.result = search rules in
    let some : said.parts.items ≡ [] → ⊥ = λ e. search rules in
    record { past = rw c.deref.ensures.value (c.columns_have_whole_pasts.ensures.whole (decoded_column said) c.in-Ok.ensures.column.valid some (omega (arith, below, c.stamp_of.ensures))) }
