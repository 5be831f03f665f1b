use Rattle.std.proofs.Common.{◌-◌, ◌++◌, List, ap, arith}
use Rattle.tsb_walk.specs.declared.page_place.PagePlace.{PagePlace}
use Rattle.tsb_check.specs.Pages.{children_of}
use Rattle.tsb_check.proofs.Placed.{child_more, child_all}
use Rattle.tsb_check.proofs.children.list_children.Goals as goal

pub loop-i-init : goal.loop-i-init
loop-i-init c = ap (λ (xs : List PagePlace). xs ++ children_of (c.args.place.now.level - 1) c.args.place.now.high c.args.children.now) c.new-places.ensures.items

pub loop-i-preserved : goal.loop-i-preserved
loop-i-preserved c =
    let p = c.args.place.now in
    let n = c.child_at.result in
    child_more (p.level - 1) p.high c.args.children.now c.loop-i.i (record { low = n.low; page = n.page }) n c.loop-i.places.items c.keep.new.kept.items (children_of (p.level - 1) p.high c.args.children.now)
    c.child_at.ensures.child (λ j. record { page = n.page; level = c.child_at.ensures.level j; low = n.low; high = c.child_at.ensures.high j }) c.in_ok-keep.ensures c.loop-i.invariant

pub returns : goal.returns
returns c =
    let p = c.args.place.now in
    child_all (p.level - 1) p.high c.args.children.now c.loop-i.i c.loop-i.places.items (children_of (p.level - 1) p.high c.args.children.now) (omega arith) c.loop-i.invariant
