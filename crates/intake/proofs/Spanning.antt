-- The pages that octets after the used ones lie on, and the pages that are listed with them.
use Rattle.std.proofs.Common.{◌≡◌, ◌≢◌, ◌⊎◌, ◌<◌, ◌≤◌, ◌↔◌, ℕ, zero, suc, ◌+◌, ◌-◌, ◌*◌, ◌/◌, ◌%◌, ◌==◌, true, false, not, List, [], ◌∷◌, ◌++◌, min, refl, sym, ◌∙◌, ap, subst, inl, inr, arith}
use Rattle.std.specs.List.{AllByRecursion}
use Rattle.std.proofs.lemmas.Bool.{cases_eq, cases_lt, cond-true, cond-false, eq-eqb, ne_eqb}
use Rattle.page_journal.specs.Bookkeeping.{is_among, without}
use Rattle.page_journal.specs.Recovers.{AreDistinct, IsListed}
use Rattle.page_tx.specs.Images.{joined}
use Rattle.intake.specs.declared.ring.Ring.{Ring}
use Rattle.intake.specs.Ring.{wrapped, size_of, HasPlaceAfter, ListsAfter}
use Rattle.intake.specs.inner.Drafts.{numbers_from, image_of, Covers}
use Rattle.intake.proofs.Wrapping.{wrapped_is, wrapped_low}
use Rattle.intake.proofs.Images.{image_number}

-- ---- the numbers of a ring's pages

from_number : (low count page n m : ℕ) → IsListed m (numbers_from low count page n) → (i : ℕ) × (i < n) × (m ≡ low + wrapped count (page + i))
from_number low count page zero m l = absurd l
from_number low count page (suc n) m l = elim l [
  | inl e ↦ (0, omega arith, e ∙ ap (λ k. low + wrapped count k) (omega arith))
  | inr r ↦ let s = from_number low count (suc page) n m r in let lt = s.1 in (suc s.0, omega arith, s.2 ∙ ap (λ k. low + wrapped count k) (omega arith))
]

to_number : (low count page n m i : ℕ) → i < n → m ≡ low + wrapped count (page + i) → IsListed m (numbers_from low count page n)
to_number low count page zero m i lt e = absurd (omega arith)
to_number low count page (suc n) m zero lt e = inl (e ∙ ap (λ k. low + wrapped count k) (omega arith))
to_number low count page (suc n) m (suc i) lt e = inr (to_number low count (suc page) n m i (omega arith) (e ∙ ap (λ k. low + wrapped count k) (omega arith)))

-- ---- which of them hold octets

-- the octet with which a page begins, or the first of all
same_page : (count used first at i k : ℕ) → at ≡ wrapped (16384 * count) (first + used) → k ≡ 16384 * i - at % 16384 → i < count → first < 16384 * count → used ≤ 16384 * count → used + k ≤ 16384 * count → wrapped count (at / 16384 + i) ≡ wrapped (16384 * count) (first + (used + k)) / 16384
same_page count used first at i k at_is k_is few start room room' =
    let j = at / 16384 + i in
    let on : (at + k) / 16384 ≡ j = omega arith in
    let low = wrapped_low (16384 * count) first used start room in
    let place_low = wrapped_low (16384 * count) first (used + k) start room' in
    elim (wrapped_is (16384 * count) (first + used)) [
      | inl v ↦ let v1 = v.1 in elim (wrapped_is (16384 * count) (first + (used + k))) [
        | inl w ↦ let w0 = w.0 in let w1 = w.1 in elim (wrapped_is count j) [ inl x ↦ let x1 = x.1 in omega arith | inr x ↦ let x0 = x.0 in absurd (omega arith) ]
        | inr w ↦ let w0 = w.0 in let w1 = w.1 in elim (wrapped_is count j) [ inl x ↦ let x0 = x.0 in absurd (omega arith) | inr x ↦ let x1 = x.1 in omega arith ]
      ]
      | inr v ↦ let v0 = v.0 in let v1 = v.1 in elim (wrapped_is (16384 * count) (first + (used + k))) [
        | inl w ↦ let w0 = w.0 in absurd (omega arith)
        | inr w ↦ let w1 = w.1 in elim (wrapped_is count j) [ inl x ↦ let x1 = x.1 in omega arith | inr x ↦ let x0 = x.0 in absurd (omega arith) ]
      ]
    ]

pub holds_there : (ring : Ring) (at octets pages n : ℕ) → ring.first < size_of ring → ring.used + octets ≤ size_of ring → at ≡ wrapped (size_of ring) (ring.first + ring.used)
    → n ≡ min pages ring.count → (0 < octets → 16384 * pages < 16384 + (at % 16384 + octets)) → (octets ≡ 0 → pages ≡ 0) → Covers ring (at / 16384) n octets
    → (m : ℕ) → IsListed m (numbers_from ring.low ring.count (at / 16384) n) ↔ HasPlaceAfter ring octets m
holds_there ring at octets pages n start room at_is n_is least none covers m = (there, back)
  where
    there : IsListed m (numbers_from ring.low ring.count (at / 16384) n) → HasPlaceAfter ring octets m
    there l =
        let s = from_number ring.low ring.count (at / 16384) n m l in
        let lt = s.1 in
        let some : 0 < octets = elim (cases_lt 0 octets) [ inl lt' ↦ lt' | inr ge ↦ let z = none (omega arith) in absurd (omega arith) ] in
        let least' = least some in
        let k = 16384 * s.0 - at % 16384 in
        (k, omega arith, s.2 ∙ ap (λ (x : ℕ). ring.low + x) (same_page ring.count ring.used ring.first at s.0 k at_is refl (omega arith) start (omega arith) (omega arith)))

    back : HasPlaceAfter ring octets m → IsListed m (numbers_from ring.low ring.count (at / 16384) n)
    back h =
        let place = wrapped (size_of ring) (ring.first + (ring.used + h.0)) in
        let lt = h.1 in
        let low = wrapped_low (size_of ring) ring.first (ring.used + h.0) start (omega arith) in
        let at_low = wrapped_low (size_of ring) ring.first ring.used start (omega arith) in
        to_number ring.low ring.count (at / 16384) n m (image_of ring.count (at / 16384) (place / 16384)) (covers h.0 h.1)
        (h.2 ∙ sym (image_number ring.low ring.count (at / 16384) (place / 16384) (omega (arith, at_low, at_is)) (omega arith)))

-- ---- numbers that are listed together

listed_first : (n : ℕ) (ns others : List ℕ) → IsListed n ns → IsListed n (ns ++ others)
listed_first n [] others l = absurd l
listed_first n (m ∷ ns) others l = elim l [ inl e ↦ inl e | inr r ↦ inr (listed_first n ns others r) ]

listed_last : (n : ℕ) (ns others : List ℕ) → IsListed n others → IsListed n (ns ++ others)
listed_last n [] others l = l
listed_last n (m ∷ ns) others l = inr (listed_last n ns others l)

listed_either : (n : ℕ) (ns others : List ℕ) → IsListed n (ns ++ others) → IsListed n ns ⊎ IsListed n others
listed_either n [] others l = inr l
listed_either n (m ∷ ns) others l = elim l [
  | inl e ↦ inl (inl e)
  | inr r ↦ elim (listed_either n ns others r) [ inl a ↦ inl (inr a) | inr b ↦ inr b ]
]

among_cases : (n : ℕ) (ns : List ℕ) → (IsListed n ns × (is_among n ns ≡ true)) ⊎ (AllByRecursion (λ m. n ≢ m) ns × (is_among n ns ≡ false))
among_cases n [] = inr (tt, refl)
among_cases n (m ∷ ns) = elim (cases_eq m n) [
  | inl is ↦ inl (inl (sym is), cond-true (m == n) true (is_among n ns) (eq-eqb m n is))
  | inr ne ↦
      let rest : is_among n (m ∷ ns) ≡ is_among n ns = cond-false (m == n) true (is_among n ns) (ne_eqb m n ne) in
      elim (among_cases n ns) [ inl here ↦ inl (inr here.0, rest ∙ here.1) | inr other ↦ inr (((λ e. ne (sym e)), other.0), rest ∙ other.1) ]
]

without_here : (n : ℕ) (held ns : List ℕ) → is_among n held ≡ true → without held (n ∷ ns) ≡ without held ns
without_here n held ns is = cond-false (not (is_among n held)) (n ∷ without held ns) (without held ns) (ap not is)

without_new : (n : ℕ) (held ns : List ℕ) → is_among n held ≡ false → without held (n ∷ ns) ≡ n ∷ without held ns
without_new n held ns is = cond-true (not (is_among n held)) (n ∷ without held ns) (without held ns) (ap not is)

from_without : (n : ℕ) (held ns : List ℕ) → IsListed n (without held ns) → IsListed n ns
from_without n held [] l = l
from_without n held (m ∷ ns) l = elim (among_cases m held) [
  | inl here ↦ inr (from_without n held ns (subst (IsListed n) (without_here m held ns here.1) l))
  | inr other ↦ elim (subst (IsListed n) (without_new m held ns other.1) l) [ inl e ↦ inl e | inr r ↦ inr (from_without n held ns r) ]
]

to_without : (n : ℕ) (held ns : List ℕ) → is_among n held ≡ false → IsListed n ns → IsListed n (without held ns)
to_without n held [] new l = l
to_without n held (m ∷ ns) new l = elim l [
  | inl e ↦ subst (IsListed n) (sym (without_new m held ns (ap (λ k. is_among k held) (sym e) ∙ new))) (inl e)
  | inr r ↦ elim (among_cases m held) [
    | inl here ↦ subst (IsListed n) (sym (without_here m held ns here.1)) (to_without n held ns new r)
    | inr other ↦ subst (IsListed n) (sym (without_new m held ns other.1)) (inr (to_without n held ns new r))
  ]
]

pub listed_joined : (n : ℕ) (held ns : List ℕ) → IsListed n (joined held ns) ↔ (IsListed n held ⊎ IsListed n ns)
listed_joined n held ns = (there, back)
  where
    there : IsListed n (joined held ns) → IsListed n held ⊎ IsListed n ns
    there l = elim (listed_either n held (without held ns) l) [ inl a ↦ inl a | inr b ↦ inr (from_without n held ns b) ]

    back : IsListed n held ⊎ IsListed n ns → IsListed n (joined held ns)
    back l = elim l [
      | inl a ↦ listed_first n held (without held ns) a
      | inr b ↦ elim (among_cases n held) [ inl here ↦ listed_first n held (without held ns) here.0 | inr other ↦ listed_last n held (without held ns) (to_without n held ns other.1 b) ]
    ]

all_both : (P : ℕ → Type 0) (xs ys : List ℕ) → AllByRecursion P xs → AllByRecursion P ys → AllByRecursion P (xs ++ ys)
all_both P [] ys a b = b
all_both P (x ∷ xs) ys a b = (a.0, all_both P xs ys a.1 b)

all_without : (P : ℕ → Type 0) (held ns : List ℕ) → AllByRecursion P ns → AllByRecursion P (without held ns)
all_without P held [] a = a
all_without P held (m ∷ ns) a = elim (among_cases m held) [
  | inl here ↦ subst (AllByRecursion P) (sym (without_here m held ns here.1)) (all_without P held ns a.1)
  | inr other ↦ subst (AllByRecursion P) (sym (without_new m held ns other.1)) (a.0, all_without P held ns a.1)
]

distinct_without : (held ns : List ℕ) → AreDistinct ns → AreDistinct (without held ns)
distinct_without held [] d = d
distinct_without held (m ∷ ns) d = elim (among_cases m held) [
  | inl here ↦ subst AreDistinct (sym (without_here m held ns here.1)) (distinct_without held ns d.1)
  | inr other ↦ subst AreDistinct (sym (without_new m held ns other.1)) (all_without (λ o. m ≢ o) held ns d.0, distinct_without held ns d.1)
]

differs : (n m : ℕ) (ns : List ℕ) → AllByRecursion (λ o. m ≢ o) ns → IsListed n ns → n ≢ m
differs n m [] a l e = absurd l
differs n m (x ∷ ns) a l e = elim l [ inl is ↦ a.0 (sym e ∙ is) | inr r ↦ differs n m ns a.1 r e ]

apart_without : (n : ℕ) (held ns : List ℕ) → IsListed n held → AllByRecursion (λ o. n ≢ o) (without held ns)
apart_without n held [] l = tt
apart_without n held (m ∷ ns) l = elim (among_cases m held) [
  | inl here ↦ subst (AllByRecursion (λ o. n ≢ o)) (sym (without_here m held ns here.1)) (apart_without n held ns l)
  | inr other ↦ subst (AllByRecursion (λ o. n ≢ o)) (sym (without_new m held ns other.1)) (differs n m held other.0 l, apart_without n held ns l)
]

distinct_both : (xs ys : List ℕ) → AreDistinct xs → AreDistinct ys → ((n : ℕ) → IsListed n xs → AllByRecursion (λ o. n ≢ o) ys) → AreDistinct (xs ++ ys)
distinct_both [] ys a b apart = b
distinct_both (x ∷ xs) ys a b apart = (all_both (λ o. x ≢ o) xs ys a.0 (apart x (inl refl)), distinct_both xs ys a.1 b (λ n l. apart n (inr l)))

pub distinct_joined : (held ns : List ℕ) → AreDistinct held → AreDistinct ns → AreDistinct (joined held ns)
distinct_joined held ns a b = distinct_both held (without held ns) a (distinct_without held ns b) (λ n l. apart_without n held ns l)

-- the pages that are listed once images of those that hold the octets are laid
pub lists_after : (ring : Ring) (octets all : ℕ) (held was now ns : List ℕ) → held ≡ was → now ≡ joined held ns → octets ≡ all → ((n : ℕ) → IsListed n ns ↔ HasPlaceAfter ring octets n) → ListsAfter ring all was now
lists_after ring octets all held was now ns same is counted are = λ n. (there n, back n)
  where
    there : (n : ℕ) → IsListed n now → IsListed n was ⊎ HasPlaceAfter ring all n
    there n l = elim ((listed_joined n held ns).0 (subst (IsListed n) is l)) [ inl a ↦ inl (subst (IsListed n) same a) | inr b ↦ inr (subst (λ (o : ℕ). HasPlaceAfter ring o n) counted ((are n).0 b)) ]

    back : (n : ℕ) → IsListed n was ⊎ HasPlaceAfter ring all n → IsListed n now
    back n l = subst (IsListed n) (sym is) ((listed_joined n held ns).1 (elim l [ inl a ↦ inl (subst (IsListed n) (sym same) a) | inr b ↦ inr ((are n).1 (subst (λ (o : ℕ). HasPlaceAfter ring o n) (sym counted) b)) ]))
