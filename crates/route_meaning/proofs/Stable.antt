-- A stable sort by time gives the one list in the order of time in which items of one time keep their order.
use Rattle.std.proofs.Common.{◌≡◌, ℕ, ◌+◌, ◌<◌, ◌≤◌, List, [], ◌∷◌, ◌++◌, length, get_or, Bool, true, false, not, ◌&&◌, leb, ltb, eqb, cond, refl, sym, ap, ◌∙◌, inl, inr, arith, zero, suc}
use Rattle.std.specs.List.{AllByRecursion, filter}
use Rattle.std.specs.List.Sorted.{IsNonDecreasingBy, IsSortedByKey, IsStableByKey, ties}
use Rattle.std.specs.Fn.{Called, ComputesKey}
use denote.Param.Members.{Mut}
use denote.Ref.{Bor}
use Rattle.std.proofs.lemmas.List.Sorted.{IsNonDecreasingBy-from_sort_by_key}
use Rattle.std.proofs.lemmas.Fn.{always_returns_same}
use Rattle.std.specs.Ordering.{nat_cmp, is_lt}
use Rattle.std.proofs.lemmas.Bool.{cases_Bool, cases_eq, cases_lt, leb-true, leb-false, le-leb, lt-leb, eq-eqb, ne_eqb}
use Rattle.std.proofs.lemmas.Bool.Decides.{nat_tests}
use Rattle.route_meaning.specs.Merged.{insert_by, by_time, IsRising}
use Rattle.route_meaning.proofs.api.Sorting.{all_weaker, filter-none, rises_by_time}

ties-eqb : (a b : ℕ) → (not (is_lt (nat_cmp a b)) && not (is_lt (nat_cmp b a))) ≡ eqb b a
ties-eqb a b = grind (arith, nat_tests)

module _ {X : Type 0} (time : X → ℕ) where
  -- the items of one time, in their order
  abbrev pub at : ℕ → List X → List X
  at t xs = filter (λ x. eqb (time x) t) xs

  pub at-insert_by : (t : ℕ) (x : X) (ys : List X) → at t (insert_by time x ys) ≡ at t (x ∷ ys)
  at-insert_by t x [] = refl
  at-insert_by t x (y ∷ ys) =
      elim (cases_Bool (leb (time x) (time y))) [
        | inl le ↦ rw le refl
        | inr gt ↦
            let lt : time y < time x = leb-false _ _ gt in
            elim (cases_eq (time y) t) [
              | inl e ↦ let ne : (time x ≡ t → ⊥) = λ e'. omega arith in rw (gt, eq-eqb (time y) t e, at-insert_by t x ys, ne_eqb (time x) t ne) refl
              | inr ne ↦ rw (gt, ne_eqb (time y) t ne, at-insert_by t x ys) refl
            ]
      ]

  pub at-by_time : (t : ℕ) (xs : List X) → at t (by_time time xs) ≡ at t xs
  at-by_time t [] = refl
  at-by_time t (x ∷ xs) = at-insert_by t x (by_time time xs) ∙ one (eqb (time x) t) (at-by_time t xs)
    where
      one : (b : Bool) → at t (by_time time xs) ≡ at t xs → cond b (x ∷ at t (by_time time xs)) (at t (by_time time xs)) ≡ cond b (x ∷ at t xs) (at t xs)
      one b e = ap (λ l. cond b (x ∷ l) l) e

  -- nothing of an earlier time
  at-late : (t : ℕ) (xs : List X) → AllByRecursion (λ x. t < time x) xs → at t xs ≡ []
  at-late t xs a = filter-none (λ x. eqb (time x) t) xs (all_weaker _ _ (λ x lt. ne_eqb (time x) t (λ e. let lt' : t < time x = lt in omega arith)) xs a)

  rising_late : (t : ℕ) (x : X) (xs : List X) → t < time x → IsRising time (x ∷ xs) → at t (x ∷ xs) ≡ []
  rising_late t x xs lt r = at-late t (x ∷ xs) (lt, all_weaker _ _ (λ y h. let le : time x ≤ time y = h in omega arith) xs r.0)

  at-first : (x : X) (xs : List X) → at (time x) (x ∷ xs) ≡ x ∷ at (time x) xs
  at-first x xs = rw (eq-eqb (time x) (time x) refl) refl

  -- the rest, where the first is one
  rest_at : (t : ℕ) (x y : X) (xs ys : List X) → x ≡ y → at t (x ∷ xs) ≡ at t (y ∷ ys) → at t xs ≡ at t ys
  rest_at t x y xs ys same e = one (eqb (time x) t) (e ∙ ap (λ z. at t (z ∷ ys)) (sym same))
    where
      one : (b : Bool) → cond b (x ∷ at t xs) (at t xs) ≡ cond b (x ∷ at t ys) (at t ys) → at t xs ≡ at t ys
      one true e' = cc
      one false e' = e'

  -- two lists in the order of time that have the same items of each time in the same order are one
  pub one_rising : (xs ys : List X) → IsRising time xs → IsRising time ys → ((z : X) → at (time z) xs ≡ at (time z) ys) → xs ≡ ys
  one_rising [] [] r s e = refl
  one_rising [] (y ∷ ys) r s e = let e' : [] ≡ y ∷ at (time y) ys = e y ∙ at-first y ys in cc
  one_rising (x ∷ xs) [] r s e = let e' : x ∷ at (time x) xs ≡ [] = sym (at-first x xs) ∙ e x in cc
  one_rising (x ∷ xs) (y ∷ ys) r s e =
      let same : x ≡ y = elim (cases_lt (time x) (time y)) [
        | inl lt ↦ let e' : x ∷ at (time x) xs ≡ [] = sym (at-first x xs) ∙ (e x ∙ rising_late (time x) y ys lt s) in cc
        | inr le ↦ elim (cases_lt (time y) (time x)) [
          | inl lt ↦ let e' : y ∷ at (time y) ys ≡ [] = sym (at-first y ys) ∙ (sym (e y) ∙ rising_late (time y) x xs lt r) in cc
          | inr le' ↦
              let times : time x ≡ time y = omega arith in
              let e' : x ∷ at (time x) xs ≡ y ∷ at (time y) ys = sym (at-first x xs) ∙ (e x ∙ (ap (λ t. at t (y ∷ ys)) times ∙ at-first y ys)) in cc
        ]
      ] in
      λ i. same i ∷ one_rising xs ys r.1 s.1 (λ z. rest_at (time z) x y xs ys same (e z)) i

  -- rising, from the places
  all_places : (n : ℕ) (xs : List X) → ((j : ℕ) (d : X) → j < length xs → n ≤ time (get_or xs j d)) → AllByRecursion (λ y. n ≤ time y) xs
  all_places n [] f = tt
  all_places n (x ∷ xs) f = (f 0 x (omega arith), all_places n xs (λ j d lt. f (suc j) d (omega arith)))

  pub rising_places : (xs : List X) → IsNonDecreasingBy time xs → IsRising time xs
  rising_places [] f = tt
  rising_places (x ∷ xs) f = (all_places (time x) xs (λ j d lt. f 0 (suc j) d (omega arith) (omega arith)), rising_places xs (λ i j d le lt. f (suc i) (suc j) d (omega arith) (omega arith)))

  ties_are : (z : X) (xs : List X) → filter (ties (λ x y. is_lt (nat_cmp (time x) (time y))) z) xs ≡ at (time z) xs
  ties_are z xs = λ i. filter (λ y. ties-eqb (time z) (time y) i) xs

  pub stable-by_time : (xs ys : List X) → IsNonDecreasingBy time ys → IsStableByKey time nat_cmp xs ys → ys ≡ by_time time xs
  stable-by_time xs ys sorted stable =
      one_rising ys (by_time time xs) (rising_places ys sorted) (rises_by_time time xs)
      (λ z. sym (ties_are z ys) ∙ (stable z ∙ (ties_are z xs ∙ sym (at-by_time (time z) xs))))

  -- from the clauses of `sort_by_key`, where each call of the closure gives the time
  pub sorted-by_time : {F : Type 0} {g : Mut F (Bor X × Unit {0}) ℕ} {f : F} (xs ys : List X)
      → ((key : X → ℕ) → ComputesKey g key f → IsSortedByKey key nat_cmp ys)
      → ((key : X → ℕ) → ComputesKey g key f → IsStableByKey key nat_cmp xs ys)
      → ((a : Bor X × Unit {0}) (r : ℕ) (f' : F) → Called g f a r f' → (r ≡ time a.0.now) × (f' ≡ f)) → ys ≡ by_time time xs
  sorted-by_time {g = g} {f = f} xs ys sorted stable h =
      stable-by_time xs ys (IsNonDecreasingBy-from_sort_by_key time ys sorted h) (stable time (always_returns_same g (λ a r. r ≡ time a.0.now) f h))
