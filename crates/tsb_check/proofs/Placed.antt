-- The places of parts and of children, one by one.
use Rattle.std.proofs.Common.{◌≡◌, ℕ, zero, suc, ◌+◌, ◌≤◌, List, [], ◌∷◌, ◌++◌, Option, Some, slice_get, length, drop, refl, ◌∙◌, ap, subst, sym, arith, append_assoc, append-nil}
use Rattle.std.proofs.lemmas.Option.{same_Some, none-some}
use Rattle.std.specs.List.{AllByRecursion}
use Rattle.tsb_walk.specs.declared.page_place.PagePlace.{PagePlace}
use Rattle.tsb_walk.specs.Shown.{keys_at}
use Rattle.version_model.specs.declared.bounds.Bounds.{Bounds}
use Rattle.version_model.specs.declared.part.Part.{Part}
use Rattle.version_model.specs.declared.part.Place.{Place}
use Rattle.version_model.specs.declared.child.Child.{Child}
use Rattle.version_model.specs.Ranges.{Range, range_of, high_or, end_or}
use Rattle.version_model.specs.Blocks.{range_at, start_or}
use Rattle.version_model.specs.Pages.{Keys, child_keys, low_or}
use Rattle.tsb_check.specs.Counted.{end_at, places_of}
use Rattle.tsb_check.specs.Pages.{high_at, children_of}

-- ---- parts

end_is : (end : Option ℕ) (parts : List Part) → end_or (end_at end parts) ≡ start_or (end_or end) (slice_get parts 0)
end_is end [] = refl
end_is end (p ∷ ps) = refl

pub length-places : (b : Bounds) (parts : List Part) → length (places_of b parts) ≡ length parts
length-places b [] = refl
length-places b (p ∷ ps) = omega (arith, length-places b ps)

pub record PlacedAt (b : Bounds) (parts : List Part) (i : ℕ) (part : Part) : Type 0 where
  pub place : Place
  pub at : slice_get (places_of b parts) i ≡ Some place
  pub range : range_of place.bounds ≡ range_at (range_of b) parts i part
  pub part_is : place.part ≡ part

pub placed_at : (b : Bounds) (parts : List Part) (i : ℕ) (part : Part) → slice_get parts i ≡ Some part → PlacedAt b parts i part
placed_at b [] i part at = absurd (none-some part at)
placed_at b (p ∷ ps) zero part at =
    let same : p ≡ part = same_Some p part at in
    subst (λ (q : Part). PlacedAt b (p ∷ ps) zero q) same (record {
      place = record { bounds = record { low = b.low; high = b.high; start = p.start; end = end_at b.end ps }; part = p };
      at = refl;
      range = λ j. record { low = b.low; high = high_or b.high; start = p.start; end = end_is b.end ps j };
      part_is = refl;
    })
placed_at b (p ∷ ps) (suc i) part at =
    let rest = placed_at b ps i part at in
    record { place = rest.place; at = rest.at; range = rest.range; part_is = rest.part_is }

pub places_are : (P : Range → Part → Type 0) (b : Bounds) (parts : List Part) → ((i : ℕ) (part : Part) → slice_get parts i ≡ Some part → P (range_at (range_of b) parts i part) part)
    → AllByRecursion (λ (p : Place). P (range_of p.bounds) p.part) (places_of b parts)
places_are P b [] each = tt
places_are P b (p ∷ ps) each = (
  subst (λ (r : Range). P r p) (λ j. record { low = b.low; high = high_or b.high; start = p.start; end = sym (end_is b.end ps) j }) (each zero p refl),
  places_are P b ps (λ i part at. each (suc i) part at),
)

pub end_some : (end : Option ℕ) (parts : List Part) (n : ℕ) (part : Part) → slice_get parts n ≡ Some part → end_at end (drop n parts) ≡ Some part.start
end_some end [] n part at = absurd (none-some part at)
end_some end (p ∷ ps) zero part at = ap (λ (q : Part). Some q.start) (same_Some p part at)
end_some end (p ∷ ps) (suc n) part at = end_some end ps n part at

pub end_none : (end : Option ℕ) (parts : List Part) (n : ℕ) → length parts ≤ n → end_at end (drop n parts) ≡ end
end_none end [] zero le = refl
end_none end [] (suc n) le = refl
end_none end (p ∷ ps) zero le = absurd (omega (arith, le))
end_none end (p ∷ ps) (suc n) le = end_none end ps n (omega (arith, le))

drop_here : {X : Type 0} (xs : List X) (n : ℕ) (x : X) → slice_get xs n ≡ Some x → drop n xs ≡ x ∷ drop (suc n) xs
drop_here [] n x at = absurd (none-some x at)
drop_here (y ∷ ys) zero x at = ap (λ z. z ∷ ys) (same_Some y x at)
drop_here (y ∷ ys) (suc n) x at = drop_here ys n x at

pub drop_all : {X : Type 0} (xs : List X) (n : ℕ) → length xs ≤ n → drop n xs ≡ []
drop_all [] zero le = refl
drop_all [] (suc n) le = refl
drop_all (y ∷ ys) zero le = absurd (omega (arith, le))
drop_all (y ∷ ys) (suc n) le = drop_all ys n (omega (arith, le))

pub placed_more : (b : Bounds) (parts : List Part) (n : ℕ) (part : Part) (place : Place) (old new all : List Place) → slice_get parts n ≡ Some part
    → place ≡ record { bounds = record { low = b.low; high = b.high; start = part.start; end = end_at b.end (drop (n + 1) parts) }; part = part } → new ≡ old ++ place ∷ []
    → old ++ places_of b (drop n parts) ≡ all → new ++ places_of b (drop (n + 1) parts) ≡ all
placed_more b parts n part place old new all at is pushed before =
    let one : suc n ≡ n + 1 = omega arith in
    let here : drop n parts ≡ part ∷ drop (n + 1) parts = subst (λ (k : ℕ). drop n parts ≡ part ∷ drop k parts) one (drop_here parts n part at) in
    ap (λ (xs : List Place). xs ++ places_of b (drop (n + 1) parts)) pushed ∙ append_assoc old (place ∷ []) (places_of b (drop (n + 1) parts)) ∙ ap (λ (p : Place). old ++ p ∷ places_of b (drop (n + 1) parts)) is
    ∙ ap (λ (ps : List Part). old ++ places_of b ps) (sym here) ∙ before

pub placed_all : (b : Bounds) (parts : List Part) (n : ℕ) (old all : List Place) → length parts ≤ n → old ++ places_of b (drop n parts) ≡ all → old ≡ all
placed_all b parts n old all le before = sym (append-nil old) ∙ ap (λ (ps : List Part). old ++ places_of b ps) (sym (drop_all parts n le)) ∙ before

-- ---- children

high_is : (high : Option ℕ) (children : List Child) → high_or (high_at high children) ≡ low_or (high_or high) (slice_get children 0)
high_is high [] = refl
high_is high (c ∷ cs) = refl

pub length-children : (level : ℕ) (high : Option ℕ) (children : List Child) → length (children_of level high children) ≡ length children
length-children level high [] = refl
length-children level high (c ∷ cs) = omega (arith, length-children level high cs)

pub record ChildAt (level low : ℕ) (high : Option ℕ) (children : List Child) (i : ℕ) (child : Child) : Type 0 where
  pub place : PagePlace
  pub at : slice_get (children_of level high children) i ≡ Some place
  pub keys : keys_at place ≡ child_keys (record { low = low; high = high_or high }) children i child
  pub level_is : place.level ≡ level
  pub page : place.page ≡ child.page

pub child_at : (level low : ℕ) (high : Option ℕ) (children : List Child) (i : ℕ) (child : Child) → slice_get children i ≡ Some child → ChildAt level low high children i child
child_at level low high [] i child at = absurd (none-some child at)
child_at level low high (c ∷ cs) zero child at =
    let same : c ≡ child = same_Some c child at in
    subst (λ (d : Child). ChildAt level low high (c ∷ cs) zero d) same (record {
      place = record { page = c.page; level = level; low = c.low; high = high_at high cs };
      at = refl;
      keys = λ j. record { low = c.low; high = high_is high cs j };
      level_is = refl;
      page = refl;
    })
child_at level low high (c ∷ cs) (suc i) child at =
    let rest = child_at level low high cs i child at in
    record { place = rest.place; at = rest.at; keys = rest.keys; level_is = rest.level_is; page = rest.page }

pub children_are : (P : ℕ → Keys → ℕ → Type 0) (level low : ℕ) (high : Option ℕ) (children : List Child)
    → ((i : ℕ) (child : Child) → slice_get children i ≡ Some child → P level (child_keys (record { low = low; high = high_or high }) children i child) child.page)
    → AllByRecursion (λ (p : PagePlace). P p.level (keys_at p) p.page) (children_of level high children)
children_are P level low high [] each = tt
children_are P level low high (c ∷ cs) each = (
  subst (λ (k : Keys). P level k c.page) (λ j. record { low = c.low; high = sym (high_is high cs) j }) (each zero c refl),
  children_are P level low high cs (λ i child at. each (suc i) child at),
)

pub high_some : (high : Option ℕ) (children : List Child) (n : ℕ) (child : Child) → slice_get children n ≡ Some child → high_at high (drop n children) ≡ Some child.low
high_some high [] n child at = absurd (none-some child at)
high_some high (c ∷ cs) zero child at = ap (λ (d : Child). Some d.low) (same_Some c child at)
high_some high (c ∷ cs) (suc n) child at = high_some high cs n child at

pub high_none : (high : Option ℕ) (children : List Child) (n : ℕ) → length children ≤ n → high_at high (drop n children) ≡ high
high_none high [] zero le = refl
high_none high [] (suc n) le = refl
high_none high (c ∷ cs) zero le = absurd (omega (arith, le))
high_none high (c ∷ cs) (suc n) le = high_none high cs n (omega (arith, le))

pub child_more : (level : ℕ) (high : Option ℕ) (children : List Child) (n : ℕ) (child : Child) (place : PagePlace) (old new all : List PagePlace) → slice_get children n ≡ Some child
    → place ≡ record { page = child.page; level = level; low = child.low; high = high_at high (drop (n + 1) children) } → new ≡ old ++ place ∷ []
    → old ++ children_of level high (drop n children) ≡ all → new ++ children_of level high (drop (n + 1) children) ≡ all
child_more level high children n child place old new all at is pushed before =
    let one : suc n ≡ n + 1 = omega arith in
    let here : drop n children ≡ child ∷ drop (n + 1) children = subst (λ (k : ℕ). drop n children ≡ child ∷ drop k children) one (drop_here children n child at) in
    ap (λ (xs : List PagePlace). xs ++ children_of level high (drop (n + 1) children)) pushed ∙ append_assoc old (place ∷ []) (children_of level high (drop (n + 1) children))
    ∙ ap (λ (p : PagePlace). old ++ p ∷ children_of level high (drop (n + 1) children)) is ∙ ap (λ (cs : List Child). old ++ children_of level high cs) (sym here) ∙ before

pub child_all : (level : ℕ) (high : Option ℕ) (children : List Child) (n : ℕ) (old all : List PagePlace) → length children ≤ n → old ++ children_of level high (drop n children) ≡ all → old ≡ all
child_all level high children n old all le before = sym (append-nil old) ∙ ap (λ (cs : List Child). old ++ children_of level high cs) (sym (drop_all children n le)) ∙ before
