use Rattle.std.proofs.Common.{◌≡◌, ◌+◌, ◌∙◌, ◌∷◌, [], ⊎_elim, inl, inr, ℕ, List, length, set, ap, sym, subst, arith, rules, IfErr, true≢false}
use Rattle.page_journal.specs.Bookkeeping.{without}
use Rattle.page_journal.specs.Journal.{home_pages}
use Rattle.page_journal.specs.Layout.{Image, pages_of}
use Rattle.page_journal.specs.Recovers.{AreBelow, AreDistinct, laid}
use Rattle.page_tx.specs.Images.{joined}
use Rattle.page_tx.specs.Refusals.{SetRefusal}
use Rattle.page_tx.specs.inner.Placing.{with_image}
use Rattle.page_tx.proofs.Joining.{joined_listed, length_joined_image, listed_joined, numbers_with}
use Rattle.page_tx.proofs.Laying.{below_with, distinct_with, laid_with, length_pages_of}
use Rattle.page_tx.proofs.tx.TxPages.set.Goals as goal

-- how many images are held with one more
counted : (n k : ℕ) (items from : List Image) → from ≡ items → k ≡ length (without (pages_of from) (n ∷ [])) → length (joined (pages_of items) (n ∷ [])) ≡ k + length items
counted n k items from same is = length_joined_image items n k (is ∙ ap (λ (l : List Image). length (without (pages_of l) (n ∷ []))) same)

pub returns-in_err-make_room-clause-refused : goal.returns-in_err-make_room-clause-refused
returns-in_err-make_room-clause-refused g c =
    let items = c.args.self.now.images.items in
    let count = counted c.args.n c.count_one-more.result items c.deref.result.now c.deref.ensures.value c.count_one-more.ensures in
    let reported : IfErr c.from_residual.result (SetRefusal (c.count_one-more.result + length items)) = search rules in
    subst (λ k. IfErr c.from_residual.result (SetRefusal k)) (sym count) reported

pub returns-in_err-make_room-clause-held : goal.returns-in_err-make_room-clause-held
returns-in_err-make_room-clause-held g c listed =
    let items = c.args.self.now.images.items in
    let count = counted c.args.n c.count_one-more.result items c.deref.result.now c.deref.ensures.value c.count_one-more.ensures in
    let same = ap length (joined_listed c.args.n (pages_of items) listed) in
    let long = length_pages_of items in
    absurd (true≢false (sym (c.in_err-make_room.ensures.none (omega (arith, count, same, long)))))

-- the images afterwards
now_is : (n : ℕ) (p : List ℕ) (items room now : List Image) → now ≡ with_image n p room → room ≡ items → now ≡ with_image n p items
now_is n p items room now is same = is ∙ ap (with_image n p) same

pub lay_one-requires : goal.lay_one-requires
lay_one-requires g c =
    let items = c.args.self.now.images.items in
    let p = c.args.page in
    let count = counted c.args.n c.count_one-more.result items c.deref.result.now c.deref.ensures.value c.count_one-more.ensures in
    let same = ap (λ (l : List Image). length (with_image c.args.n p l)) c.make_room.ensures.items in
    let named = ap length (numbers_with c.args.n p items) in
    let long = length_pages_of (with_image c.args.n p items) in
    let room = c.in_ok-make_room.ensures.room in
    omega (arith, count, same, named, long, room)

pub invariant_of-self-2 : goal.invariant_of-self-2
invariant_of-self-2 g c =
    let self = c.args.self.now in
    let items = self.images.items in
    let p = c.args.page in
    let now = c.lay_one.new.held.items in
    let is = now_is c.args.n p items c.make_room.new.held.items now c.lay_one.ensures.items c.make_room.ensures.items in
    let count = counted c.args.n c.count_one-more.result items c.deref.result.now c.deref.ensures.value c.count_one-more.ensures in
    let named = ap length (ap pages_of is ∙ numbers_with c.args.n p items) in
    let long = length_pages_of now in
    let few = c.in_ok-make_room.ensures.few in
    record {
      few = omega (arith, count, named, long, few);
      distinct = subst (λ (l : List Image). AreDistinct (pages_of l)) (sym is) (distinct_with c.args.n p items self.distinct);
      last = self.last;
      below = subst (λ (l : List Image). AreBelow (home_pages self.pool.journal) (pages_of l)) (sym is) (below_with (home_pages self.pool.journal) c.args.n p items c.requires self.below);
    }

pub returns-clause-ok : goal.returns-clause-ok
returns-clause-ok g c start shown s =
    let items = c.args.self.now.images.items in
    let p = c.args.page in
    let now = c.lay_one.new.held.items in
    let is = now_is c.args.n p items c.make_room.new.held.items now c.lay_one.ensures.items c.make_room.ensures.items in
    record {
      honest = s.honest;
      maps = s.maps;
      noted = s.noted;
      clocked = s.clocked;
      over = ap (λ (l : List (List ℕ)). set l c.args.n p) s.over ∙ sym (laid_with c.args.n p items start.pages c.args.self.now.distinct) ∙ ap (λ (l : List Image). laid l start.pages) (sym is);
    }

pub returns-clause-named : goal.returns-clause-named
returns-clause-named g c =
    let items = c.args.self.now.images.items in
    let p = c.args.page in
    let is = now_is c.args.n p items c.make_room.new.held.items c.lay_one.new.held.items c.lay_one.ensures.items c.make_room.ensures.items in
    ap pages_of is ∙ numbers_with c.args.n p items

pub returns-clause-few : goal.returns-clause-few
returns-clause-few g c =
    let items = c.args.self.now.images.items in
    let count = counted c.args.n c.count_one-more.result items c.deref.result.now c.deref.ensures.value c.count_one-more.ensures in
    let few = c.in_ok-make_room.ensures.few in
    omega (arith, count, few)

pub returns-clause-resident : goal.returns-clause-resident
returns-clause-resident g c m there =
    let items = c.args.self.now.images.items in
    let p = c.args.page in
    let now = c.lay_one.new.held.items in
    let is = now_is c.args.n p items c.make_room.new.held.items now c.lay_one.ensures.items c.make_room.ensures.items in
    ⊎_elim (λ listed. inl (listed_joined m (pages_of items) (c.args.n ∷ []) (pages_of now) (ap pages_of is ∙ numbers_with c.args.n p items) listed)) (λ below. inr below) there
