use Rattle.std.proofs.Common.{◌≡◌, ◌∙◌, ◌∷◌, [], List, inl, inr, ⊎_elim, length, arith, refl, ap, sym, subst}
use Rattle.std.specs.List.{slice_set}
use Rattle.std.proofs.lemmas.List.{length-set}
use Rattle.std.specs.Vec.Iter.{into_iter_items}
use Rattle.page_journal.specs.Layout.{Image, pages_of}
use Rattle.page_journal.specs.Recovers.{laid, AreBelow, IsListed}
use Rattle.buffer_pool.specs.Held.{CachesPages}
use Rattle.buffer_pool.proofs.held.take_all.Goals as goal

no_images : (l : List Image) → length l ≡ 0 → l ≡ []
no_images [] none = refl
no_images (image ∷ l) none = absurd (omega (arith, none))

pub loop-n-preserved : goal.loop-n-preserved
loop-n-preserved c =
    let step = c.in-Some.ensures.steps in
    let rest = into_iter_items c.next.new.self in
    record {
      capacity = c.take_page.ensures.capacity ∙ c.loop-n.invariant.capacity;
      waits = λ m there. c.take_page.ensures.waits m (c.loop-n.invariant.waits m there);
      only = λ m there. c.loop-n.invariant.only m (⊎_elim
          (λ later. inl (subst (λ (l : List Image). IsListed m (pages_of l)) (sym step.0) (inr later)))
          (λ now. ⊎_elim
          (λ same. inl (subst (λ (l : List Image). IsListed m (pages_of l)) (sym step.0) (inl same)))
          (λ was. inr was)
          (c.take_page.ensures.only m now))
          there);
      holds = λ map below held.
          let so_far = c.loop-n.invariant.holds map below held in
          let now = so_far.0 in
          let inside : AreBelow (length now) (pages_of ((c.in-Some.n, c.in-Some.page) ∷ rest)) = subst (λ (l : List Image). AreBelow (length now) (pages_of l)) step.0 so_far.3 in (
            slice_set now c.in-Some.n c.in-Some.page,
            c.take_page.ensures.holds now inside.0 so_far.1,
            ap (λ (l : List Image). laid l now) (sym step.0) ∙ so_far.2,
            subst (λ k. AreBelow k (pages_of rest)) (sym (length-set now c.in-Some.n c.in-Some.page)) inside.1,
          );
    }

pub returns-clause-holds : goal.returns-clause-holds
returns-clause-holds c map below held =
    let so_far = c.loop-n.invariant.holds map below held in
    let step = c.in-None.ensures.steps in
    let now = so_far.0 in
    let gone : into_iter_items c.loop-n.n-iterator ≡ [] = no_images (into_iter_items c.loop-n.n-iterator) (omega (arith, c.loop-n.n-iterator.rest.ok, step.0)) in
    subst (CachesPages c.loop-n.committed c.loop-n.cached) (ap (λ (l : List Image). laid l now) (sym gone) ∙ so_far.2) so_far.1
