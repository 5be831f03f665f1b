-- The late ones of a batch determine which of its items are timely.
use Rattle.std.proofs.Common.{◌≡◌, ℕ, ◌+◌, ◌<◌, ◌≤◌, List, [], ◌∷◌, ◌++◌, length, drop, get_or, map, Some, refl, sym, ap, ◌∙◌, arith, inl, inr, append_assoc, append-nil, zero, suc}
use Rattle.std.specs.List.{AllByRecursion, slice_get}
use Rattle.std.proofs.lemmas.Bool.{cases_Bool}
use Rattle.route_meaning.proofs.api.Sorting.{all_weaker}
use Rattle.sequencer.specs.declared.late.Late.{Late}
use Rattle.sequencer.specs.Late.{greatest, is_late, timely, lates}

-- after the first i of a batch, of which `passed` are late, follow the other late ones, and what is kept grows to all that is timely
pub record IsPassed {X : Type 0} (time : X → ℕ) (mark : ℕ) (late : List Late) (batch : List X) (i passed : ℕ) (kept : List X) : Type 0 where
  pub earlier : List ℕ
  pub reported : drop passed late ≡ lates time mark earlier i (drop i batch)
  pub grows : kept ++ timely time mark earlier (drop i batch) ≡ timely time mark [] batch

pub passed_none : {X : Type 0} (time : X → ℕ) (mark : ℕ) (late : List Late) (batch : List X) → late ≡ lates time mark [] 0 batch → IsPassed time mark late batch 0 0 []
passed_none time mark late batch e = record { earlier = []; reported = e; grows = refl }

-- no late one stands before the first item
no_earlier : {X : Type 0} (time : X → ℕ) (mark : ℕ) (earlier : List ℕ) (i : ℕ) (xs : List X) → AllByRecursion (λ one. i ≤ one.index) (lates time mark earlier i xs)
no_earlier time mark earlier i [] = tt
no_earlier time mark earlier i (x ∷ xs) =
    let rest : AllByRecursion (λ one. i ≤ one.index) (lates time mark (earlier ++ time x ∷ []) (i + 1) xs) =
    all_weaker _ _ (λ (one : Late) le. let le' : i + 1 ≤ one.index = le in omega (arith, le')) _ (no_earlier time mark (earlier ++ time x ∷ []) (i + 1) xs) in
    elim (cases_Bool (is_late mark earlier (time x))) [
      | inl e ↦ rw e (omega arith, rest)
      | inr e ↦ rw e rest
    ]

from_here : {X : Type 0} (i : ℕ) (xs : List X) (x : X) → i < length xs → x ≡ get_or xs i x → drop i xs ≡ x ∷ drop (suc i) xs
from_here i [] x lt e = absurd (omega arith)
from_here {X} zero (y ∷ xs) x lt e = ap (λ (z : X). z ∷ xs) (sym e)
from_here (suc i) (y ∷ xs) x lt e = from_here i xs x (omega arith) e

beyond : (n : ℕ) (late : List Late) (one : Late) (others : List Late) → drop n late ≡ one ∷ others → (slice_get (map (λ l. l.index) late) n ≡ Some one.index) × (drop (suc n) late ≡ others)
beyond zero [] one others e = cc
beyond (suc n) [] one others e = cc
beyond zero (l ∷ late) one others e = (let same : l ≡ one = cc in ap (λ (x : Late). Some x.index) same, let rest : late ≡ others = cc in rest)
beyond (suc n) (l ∷ late) one others e = beyond n late one others e

one_more : (n : ℕ) → suc n ≡ n + 1
one_more n = omega arith

here : {X : Type 0} (i : ℕ) (xs : List X) (x : X) → i < length xs → x ≡ get_or xs i x → drop i xs ≡ x ∷ drop (i + 1) xs
here {X} i xs x lt e = from_here i xs x lt e ∙ ap (λ (n : ℕ). x ∷ drop n xs) (one_more i)

place : (n : ℕ) (late : List Late) (one : Late) (others : List Late) → drop n late ≡ one ∷ others → (slice_get (map (λ l. l.index) late) n ≡ Some one.index) × (drop (n + 1) late ≡ others)
place n late one others e = let b = beyond n late one others e in (b.0, ap (λ (m : ℕ). drop m late) (sym (one_more n)) ∙ b.1)

no_place : (n : ℕ) (late : List Late) (i : ℕ) → drop n late ≡ [] → slice_get (map (λ l. l.index) late) n ≡ Some i → ⊥
no_place n [] i e at = cc
no_place zero (l ∷ late) i e at = cc
no_place (suc n) (l ∷ late) i e at = no_place n late i e at

-- a late one further on isn't here
not_here : (n : ℕ) (late rest : List Late) (i : ℕ) → drop n late ≡ rest → AllByRecursion (λ one. i + 1 ≤ one.index) rest → slice_get (map (λ l. l.index) late) n ≡ Some i → ⊥
not_here n late [] i e all at = no_place n late i e at
not_here n late (one ∷ others) i e all at =
    let there = place n late one others e in
    let le : i + 1 ≤ one.index = all.0 in
    let same : one.index ≡ i = (let f : Some one.index ≡ Some i = sym there.0 ∙ at in cc) in
    omega (arith, le, same)

-- the item and those after it, unfolded
module _ {X : Type 0} (time : X → ℕ) (mark : ℕ) (late : List Late) (batch : List X) (i passed : ℕ) (kept : List X) (p : IsPassed time mark late batch i passed kept) (x : X) (lt : i < length batch) (at : x ≡ get_or batch i x) where
  reported_now : drop passed late ≡ lates time mark p.earlier i (x ∷ drop (i + 1) batch)
  reported_now = p.reported ∙ ap (lates time mark p.earlier i) (here i batch x lt at)

  grows_now : kept ++ timely time mark p.earlier (x ∷ drop (i + 1) batch) ≡ timely time mark [] batch
  grows_now = ap (λ l. kept ++ timely time mark p.earlier l) (sym (here i batch x lt at)) ∙ p.grows

  -- an item that is listed as late is late
  pub passed_late : slice_get (map (λ (one : Late). one.index) late) passed ≡ Some i → IsPassed time mark late batch (i + 1) (passed + 1) kept
  passed_late reported =
      let next = p.earlier ++ time x ∷ [] in
      let rest = drop (i + 1) batch in
      elim (cases_Bool (is_late mark p.earlier (time x))) [
        | inl e ↦ record {
          earlier = next;
          reported = (place passed late (record { index = i; time = time x; mark = greatest mark p.earlier }) (lates time mark next (i + 1) rest) (reported_now ∙ rw e refl)).1;
          grows = ap (λ l. kept ++ l) (sym (rw e refl)) ∙ grows_now;
        }
        | inr e ↦ absurd (not_here passed late (lates time mark next (i + 1) rest) i (reported_now ∙ rw e refl) (no_earlier time mark next (i + 1) rest) reported)
      ]

  -- one that isn't is timely
  pub passed_timely : (slice_get (map (λ (one : Late). one.index) late) passed ≡ Some i → ⊥) → IsPassed time mark late batch (i + 1) passed (kept ++ x ∷ [])
  passed_timely unreported =
      let next = p.earlier ++ time x ∷ [] in
      let rest = drop (i + 1) batch in
      elim (cases_Bool (is_late mark p.earlier (time x))) [
        | inl e ↦ absurd (unreported (place passed late (record { index = i; time = time x; mark = greatest mark p.earlier }) (lates time mark next (i + 1) rest) (reported_now ∙ rw e refl)).0)
        | inr e ↦ record {
          earlier = next;
          reported = reported_now ∙ rw e refl;
          grows = append_assoc kept (x ∷ []) (timely time mark next rest) ∙ (ap (λ l. kept ++ l) (sym (rw e refl)) ∙ grows_now);
        }
      ]

pub passed_all : {X : Type 0} (time : X → ℕ) (mark : ℕ) (late : List Late) (batch : List X) (i passed : ℕ) (kept : List X) → length batch ≤ i → IsPassed time mark late batch i passed kept → kept ≡ timely time mark [] batch
passed_all time mark late batch i passed kept le p = sym (append-nil kept) ∙ (ap (λ l. kept ++ timely time mark p.earlier l) (sym (none_after i batch le)) ∙ p.grows)
  where
    none_after : {X : Type 0} (n : ℕ) (xs : List X) → length xs ≤ n → drop n xs ≡ []
    none_after zero [] le = refl
    none_after zero (x ∷ xs) le = absurd (omega arith)
    none_after (suc n) [] le = refl
    none_after (suc n) (x ∷ xs) le = none_after n xs (omega arith)
