use Rattle.std.proofs.Common.{◌∙◌, ℕ, List, ap, sym, subst}
use Rattle.once_store.specs.Digests.{sealed}
use Rattle.tsb_node.specs.Leaves.{IsLeafBlock}
use Rattle.tsb_node.specs.Sealing.{ended}
use Rattle.tsb_node.specs.inner.Laying.{laid}
use Rattle.tsb_node.proofs.Laying.{laid_is}
use Rattle.tsb_node.proofs.SealingLaws.{block_made}
use Rattle.tsb_node.proofs.leaf_sealing.seal_leaf.Goals as goal

pub returns : goal.returns
returns c = λ leaf page after.
    let copied = c.copy_leaf.new.block in
    let e = laid_is 104 c.stamp_octets.result copied c.put.new.self c.put.ensures ∙ ap (λ (t : List ℕ). laid 104 t copied) c.stamp_octets.ensures in
    rw c.seal.ensures.sealed (subst (λ (t : List ℕ). IsLeafBlock (ended leaf c.args.end) (sealed t)) (sym e) (block_made leaf copied c.args.end (c.copy_leaf.ensures leaf page) c.requires after))
