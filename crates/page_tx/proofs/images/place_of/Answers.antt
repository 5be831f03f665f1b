use Rattle.std.proofs.Common.{◌≡◌, sym, ap, ◌∙◌}
use Rattle.std.proofs.lemmas.Option.{get_or_from_slice_get}
use Rattle.page_journal.specs.Layout.{Image}
use Rattle.page_tx.proofs.Laying.{image_found}
use Rattle.page_tx.proofs.images.place_of.Goals as goal

pub returns-then-image-n-clause-here : goal.returns-then-image-n-clause-here
returns-then-image-n-clause-here c page =
    let number : c.index-images-k.result.0 ≡ c.args.n = c.if-image-n.true in
    image_found c.args.n c.loop-k.k c.args.images.now c.index-images-k.result page c.loop-k-test.true c.index-images-k.is number (c.loop-k.invariant.placed page)

pub returns-then-image-n-clause-number : goal.returns-then-image-n-clause-number
returns-then-image-n-clause-number c image at =
    let number : c.index-images-k.result.0 ≡ c.args.n = c.if-image-n.true in
    let same = get_or_from_slice_get c.args.images.now c.loop-k.k image c.index-images-k.result at in
    ap (λ (i : Image). i.0) (sym same ∙ sym c.index-images-k.is) ∙ number
