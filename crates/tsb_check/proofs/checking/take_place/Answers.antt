use Rattle.std.proofs.Common.{ℕ, List, ◌++◌, ◌∷◌, [], ◌<◌, ◌≤◌, ◌∙◌, ap, sym, subst, arith}
use Rattle.version_model.specs.declared.child.Child.{Child}
use Rattle.tsb_walk.specs.declared.page_place.PagePlace.{PagePlace}
use Rattle.tsb_check.specs.Pages.{places_under}
use Rattle.tsb_check.specs.inner.GoingUnder.{page_weight}
use Rattle.tsb_check.proofs.Under.{page_falls, page_ends}
use Rattle.tsb_check.proofs.checking.take_place.Goals as goal

pub returns-then-place-eq1-clause-falls : goal.returns-then-place-eq1-clause-falls
returns-then-place-eq1-clause-falls g c = page_ends c.args.place.now c.args.left.now.items

pub returns-clause-falls : goal.returns-clause-falls
returns-clause-falls g c =
    let p = c.args.place.now in
    let children = c.in_ok-more-2.ensures ∙ ap (λ (cs : List Child). places_under p cs) c.deref.ensures.value in
    let new = c.in_ok-append.ensures.items ∙ ap (λ (xs : List PagePlace). c.args.left.now.items ++ xs) children in
    subst (λ (ps : List PagePlace). page_weight ps < page_weight (c.args.left.now.items ++ p ∷ [])) (sym new)
    (page_falls p c.args.left.now.items c.in_ok-children.children.items (omega (arith, c.in_ok-children.ensures.above)) c.in_ok-children.ensures.few)
