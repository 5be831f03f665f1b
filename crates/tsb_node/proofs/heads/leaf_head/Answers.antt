use Rattle.std.proofs.Common.{◌∙◌, ap, sym, subst, refl}
use Rattle.std.specs.declared.result.Result.TheVariants.{Ok}
use Rattle.tsb_node.specs.Nodes.{IsBounds}
use Rattle.tsb_node.specs.Leaves.{LeafNode, entries}
use Rattle.tsb_node.proofs.LeafReading.{leaf_header, leaf_begun}
use Rattle.tsb_node.proofs.NodeLaws.{begun_header}
use Rattle.tsb_node.proofs.heads.leaf_head.Goals as goal

pub returns-clause-leaf : goal.returns-clause-leaf
returns-clause-leaf c = λ leaf is.
    let w = is.as_written in
    let h = leaf_header is.begins.unit w in
    let has = begun_header h (entries w.versions) c.args.octets.now (leaf_begun w c.args.octets.now is.begins) in
    let fits = subst (λ (x : LeafNode). IsBounds x.bounds) is.moments.scaled_is is.valid.bounds in
    c.bounds_of.ensures.bounds h is.moments.known has refl refl fits ∙ ap (λ (x : LeafNode). Ok x.bounds) (sym is.moments.scaled_is)
