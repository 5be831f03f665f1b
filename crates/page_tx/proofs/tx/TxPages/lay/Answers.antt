use Rattle.std.proofs.Common.{⊎_elim, inl, inr, ◌≡◌, ◌≤◌, ◌+◌, ◌∙◌, ℕ, List, length, ap, sym, subst, arith, rules, Result, Ok, Err, IfErr}
use Rattle.page_journal.specs.Bookkeeping.{without}
use Rattle.page_journal.specs.Journal.{home_pages}
use Rattle.page_journal.specs.Layout.{Image, pages_of}
use Rattle.page_journal.specs.Recovers.{AreBelow, AreDistinct, laid}
use Rattle.page_tx.specs.declared.error.PageError.{PageError}
use Rattle.page_tx.specs.declared.error.PageError.TheVariants as refusals
use Rattle.page_tx.specs.Images.{joined}
use Rattle.page_tx.specs.Refusals.{LayRefusal, SetRefusal}
use Rattle.page_tx.specs.inner.Placing.{with_images}
use Rattle.page_tx.proofs.Joining.{below_withs, distinct_withs, laid_withs, length_joined_images, listed_joined, numbers_withs}
use Rattle.page_tx.proofs.Laying.{length_pages_of}
use Rattle.page_tx.proofs.tx.TxPages.lay.Goals as goal

-- how many images are held with the others
counted : (k : ℕ) (items from new given : List Image) → from ≡ items → given ≡ new → k ≡ length (without (pages_of from) (pages_of given)) → length (joined (pages_of items) (pages_of new)) ≡ k + length items
counted k items from new given same others is =
    length_joined_images items new k (is ∙ ap (λ (l : List Image). length (without (pages_of l) (pages_of given))) same ∙ ap (λ (l : List Image). length (without (pages_of items) (pages_of l))) others)

lay_refused : {T : Type 0} (homes unused count : ℕ) (r : Result T PageError) → unused ≤ homes → IfErr r (SetRefusal count) → IfErr r (LayRefusal homes unused count)
lay_refused homes unused count (Ok x) room reported = tt
lay_refused homes unused count (Err refusals.TooManyImages) room reported = (room, reported)
lay_refused homes unused count (Err refusals.OutOfMemory) room reported = (room, reported)
lay_refused homes unused count (Err refusals.PagesFull) room reported = absurd reported
lay_refused homes unused count (Err refusals.Fault) room reported = reported
lay_refused homes unused count (Err refusals.NeedsRecovery) room reported = reported

pub returns-in_err-make_room-clause-refused : goal.returns-in_err-make_room-clause-refused
returns-in_err-make_room-clause-refused g c =
    let self = c.args.self.now in
    let items = self.images.items in
    let new = c.args.images.items in
    let count = counted c.count_new-more.result items c.deref.result.now new c.deref-2.result.now c.deref.ensures.value c.deref-2.ensures.value c.count_new-more.ensures in
    let reported : IfErr c.from_residual.result (SetRefusal (c.count_new-more.result + length items)) = search rules in
    let homes = c.home_pages.ensures.homes in
    lay_refused (home_pages self.pool.journal) c.args.unused (length (joined (pages_of items) (pages_of new))) c.from_residual.result (omega (arith, homes, c.if-unused-home_pages.false))
    (subst (λ k. IfErr c.from_residual.result (SetRefusal k)) (sym count) reported)

-- the images afterwards
now_is : (items new room now : List Image) → now ≡ with_images new room → room ≡ items → now ≡ with_images new items
now_is items new room now is same = is ∙ ap (with_images new) same

pub lay_all-requires : goal.lay_all-requires
lay_all-requires g c =
    let items = c.args.self.now.images.items in
    let new = c.args.images.items in
    let count = counted c.count_new-more.result items c.deref.result.now new c.deref-2.result.now c.deref.ensures.value c.deref-2.ensures.value c.count_new-more.ensures in
    let same = ap (λ (l : List Image). length (with_images new l)) c.make_room.ensures.items in
    let named = ap length (numbers_withs new items c.requires.distinct) in
    let long = length_pages_of (with_images new items) in
    let room = c.in_ok-make_room.ensures.room in
    omega (arith, count, same, named, long, room)

pub invariant_of-self-2 : goal.invariant_of-self-2
invariant_of-self-2 g c =
    let self = c.args.self.now in
    let items = self.images.items in
    let new = c.args.images.items in
    let now = c.lay_all.new.held.items in
    let is = now_is items new c.make_room.new.held.items now c.lay_all.ensures c.make_room.ensures.items in
    let count = counted c.count_new-more.result items c.deref.result.now new c.deref-2.result.now c.deref.ensures.value c.deref-2.ensures.value c.count_new-more.ensures in
    let named = ap length (ap pages_of is ∙ numbers_withs new items c.requires.distinct) in
    let long = length_pages_of now in
    let few = c.in_ok-make_room.ensures.few in
    record {
      few = omega (arith, count, named, long, few);
      distinct = subst (λ (l : List Image). AreDistinct (pages_of l)) (sym is) (distinct_withs new items self.distinct);
      last = omega (arith, c.home_pages.ensures.homes, c.if-unused-home_pages.false);
      below = subst (λ (l : List Image). AreBelow (home_pages self.pool.journal) (pages_of l)) (sym is) (below_withs (home_pages self.pool.journal) new items c.requires.below self.below);
    }

pub returns-clause-ok : goal.returns-clause-ok
returns-clause-ok g c start shown s =
    let items = c.args.self.now.images.items in
    let new = c.args.images.items in
    let now = c.lay_all.new.held.items in
    let is = now_is items new c.make_room.new.held.items now c.lay_all.ensures c.make_room.ensures.items in
    record {
      honest = s.honest;
      maps = s.maps;
      noted = s.noted;
      clocked = s.clocked;
      over = ap (laid new) s.over ∙ sym (laid_withs new items start.pages c.args.self.now.distinct) ∙ ap (λ (l : List Image). laid l start.pages) (sym is);
    }

pub returns-clause-named : goal.returns-clause-named
returns-clause-named g c =
    let items = c.args.self.now.images.items in
    let new = c.args.images.items in
    let is = now_is items new c.make_room.new.held.items c.lay_all.new.held.items c.lay_all.ensures c.make_room.ensures.items in
    ap pages_of is ∙ numbers_withs new items c.requires.distinct

pub returns-clause-few : goal.returns-clause-few
returns-clause-few g c =
    let items = c.args.self.now.images.items in
    let new = c.args.images.items in
    let count = counted c.count_new-more.result items c.deref.result.now new c.deref-2.result.now c.deref.ensures.value c.deref-2.ensures.value c.count_new-more.ensures in
    let few = c.in_ok-make_room.ensures.few in
    omega (arith, count, few)

pub returns-clause-resident : goal.returns-clause-resident
returns-clause-resident g c m there =
    let items = c.args.self.now.images.items in
    let new = c.args.images.items in
    let now = c.lay_all.new.held.items in
    let is = now_is items new c.make_room.new.held.items now c.lay_all.ensures c.make_room.ensures.items in
    ⊎_elim (λ listed. inl (listed_joined m (pages_of items) (pages_of new) (pages_of now) (ap pages_of is ∙ numbers_withs new items c.requires.distinct) listed)) (λ below. inr below) there
