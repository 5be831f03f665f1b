use Rattle.std.proofs.Common.{◌≡◌}
use Rattle.page_tx.proofs.Laying.{image_found}
use Rattle.tsb_tree.proofs.change.place_of.Goals as goal

pub returns-then-image-n-clause-here : goal.returns-then-image-n-clause-here
returns-then-image-n-clause-here c page =
    let number : c.index-images-k.result.0 ≡ c.args.n = c.if-image-n.true in
    image_found c.args.n c.loop-k.k c.args.images.now c.index-images-k.result page c.loop-k-test.true c.index-images-k.is number (c.loop-k.invariant page)
