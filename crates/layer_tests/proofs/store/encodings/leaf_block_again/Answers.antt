use Rattle.std.proofs.Common.{◌+◌, ◌<◌, ◌^◌, ℕ, Option, refl, subst}
use Rattle.std.specs.Option.{IfSome}
use Rattle.tsb_node.proofs.api.Writing.{opened_leaf_can}
use Rattle.layer_tests.proofs.store.encodings.leaf_block_again.Goals as goal

pub write_leaf-requires : goal.write_leaf-requires
write_leaf-requires c = rw c.deref.ensures.value (record { valid = opened_leaf_can _ c.in-Ok.ensures.leaf.valid; current = refl })

pub seal_leaf-requires : goal.seal_leaf-requires
seal_leaf-requires c = (subst (λ (o : Option ℕ). IfSome o (λ n. (n + 1 < 256 ^ 16) × (c.in-Ok.decoded.bounds.start < n))) c.in-Some.is c.in-Ok.ensures.leaf.valid.bounds.order.end).0
