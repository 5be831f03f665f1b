use Rattle.std.proofs.Common.{◌∙◌, List, length, ap, sym, arith}
use Rattle.std.specs.Vec.Iter.{into_iter_items}
use Rattle.page_journal.specs.Layout.{Image}
use Rattle.page_tx.specs.inner.Placing.{with_image, with_images}
use Rattle.page_tx.proofs.Joining.{length_withs}
use Rattle.page_tx.proofs.images.lay_all.Goals as goal

pub lay_one-requires : goal.lay_one-requires
lay_one-requires c =
    let held = c.loop-n.held.items in
    let rest = into_iter_items c.next.new.self in
    let step = ap (λ (l : List Image). with_images l held) (sym c.in-Some.ensures.steps.0) in
    let items = ap length (step ∙ c.loop-n.invariant.items) in
    let long = length_withs rest (with_image c.in-Some.n c.in-Some.page held) in
    let room = c.loop-n.invariant.capacity in
    omega (arith, items, long, room)
