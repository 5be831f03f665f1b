use Rattle.std.proofs.Common.{arith, sym, subst}
use Rattle.std.proofs.lemmas.Bool.{false≢true}
use Rattle.tsb_node.proofs.ViewLaws.{entries-octets}
use Rattle.version_model.specs.Entries.{versions_of}
use Rattle.tsb_node.specs.Leaves.{LeafNode, IsLeafPage}
use Rattle.tsb_tree.specs.Refusals.{BlamesNone}
use Rattle.tsb_tree.proofs.Unread.{node_blames_none}
use Rattle.tsb_tree.proofs.reading.leaf_in.Goals as goal

pub returns-in-None-clause-honest : goal.returns-in-None-clause-honest
returns-in-None-clause-honest c leaf is =
    let page = c.in-Ok.ensures.leaf in
    let size = entries-octets (versions_of c.in-Ok.decoded.entries.items) in
    let some = c.in-None.ensures.exactly.1 (page.valid.rising, omega (arith, size, page.valid.fits)) in
    absurd (false≢true some)

pub returns-in-Err-clause-honest : goal.returns-in-Err-clause-honest
returns-in-Err-clause-honest c leaf is =
    subst BlamesNone (sym c.unread.ensures) (node_blames_none (λ (l : LeafNode). IsLeafPage l c.args.page.now) c.in-Err.fault c.args.n leaf c.in-Err.ensures.leaf is)
