-- How many pages aren't home.
use Rattle.std.proofs.Common.{◌≡◌, ◌≢◌, ◌≤◌, inl, inr, ⊎_elim, ℕ, suc, ◌+◌, ◌*◌, ◌==◌, true, if◌then◌else◌, List, [], ◌∷◌, length, refl, sym, ◌∙◌, ap, subst, arith}
use Rattle.std.specs.List.{AllByRecursion}
use Rattle.std.proofs.lemmas.Bool.{cases_eq, cond-true, cond-false, eq-eqb, ne_eqb}
use Rattle.page_journal.specs.Layout.{Image}
use Rattle.page_journal.specs.Recovers.{IsListed}
use Rattle.page_journal.specs.Bookkeeping.{IsOf, is_among, waiting_in}
use Rattle.page_journal.specs.inner.Entering.{unhomed_after, with_entry}
use Rattle.page_journal.specs.declared.unhomed.Unhomed.{Unhomed}
use Rattle.page_journal.proofs.RingLemmas.{among_listed}
use Rattle.page_journal.proofs.Placing.{others, others_here, others_there}

pub waiting_here : (t : ℕ) (u : Unhomed) (l : List Unhomed) → u.slot ≡ t → waiting_in t (u ∷ l) ≡ u.page ∷ waiting_in t l
waiting_here t u l is = cond-true (u.slot == t) (u.page ∷ waiting_in t l) (waiting_in t l) (eq-eqb u.slot t is)

pub waiting_there : (t : ℕ) (u : Unhomed) (l : List Unhomed) → u.slot ≢ t → waiting_in t (u ∷ l) ≡ waiting_in t l
waiting_there t u l ne = cond-false (u.slot == t) (u.page ∷ waiting_in t l) (waiting_in t l) (ne_eqb u.slot t ne)

-- how many images of a slot are the newest of their pages
abbrev pub count_in : ℕ → List Unhomed → ℕ
count_in t l = length (waiting_in t l)

count_here : (t : ℕ) (u : Unhomed) (l : List Unhomed) → u.slot ≡ t → count_in t (u ∷ l) ≡ count_in t l + 1
count_here t u l is = omega (arith, ap (length {A = ℕ}) (waiting_here t u l is))

count_there : (t : ℕ) (u : Unhomed) (l : List Unhomed) → u.slot ≢ t → count_in t (u ∷ l) ≡ count_in t l
count_there t u l ne = ap (length {A = ℕ}) (waiting_there t u l ne)

-- the same entry before two lists
count_less : (t m : ℕ) (u : Unhomed) (k l : List Unhomed) → count_in t k ≤ count_in t l + m → count_in t (u ∷ k) ≤ count_in t (u ∷ l) + m
count_less t m u k l le = ⊎_elim
    (λ (is : u.slot ≡ t). omega (arith, le, count_here t u k is, count_here t u l is))
    (λ (ne : u.slot ≡ t → ⊥). omega (arith, le, count_there t u k ne, count_there t u l ne))
    (cases_eq u.slot t)

count_most : (t : ℕ) (u : Unhomed) (l : List Unhomed) → count_in t (u ∷ l) ≤ count_in t l + 1
count_most t u l = ⊎_elim
    (λ (is : u.slot ≡ t). omega (arith, count_here t u l is))
    (λ (ne : u.slot ≡ t → ⊥). omega (arith, count_there t u l ne))
    (cases_eq u.slot t)

count_least : (t : ℕ) (u : Unhomed) (l : List Unhomed) → count_in t l ≤ count_in t (u ∷ l)
count_least t u l = ⊎_elim
    (λ (is : u.slot ≡ t). omega (arith, count_here t u l is))
    (λ (ne : u.slot ≡ t → ⊥). omega (arith, count_there t u l ne))
    (cases_eq u.slot t)

-- ---- with an entry more

count_with : (t : ℕ) (v : Unhomed) (l : List Unhomed) → count_in t (with_entry v l) ≤ count_in t l + 1
count_with t v [] = count_most t v []
count_with t v (u ∷ l) = elim (cases_eq u.page v.page) [
  | inl e ↦ rw (eq-eqb u.page v.page e) (let a = count_most t v l in let b = count_least t u l in omega (arith, a, b))
  | inr ne ↦ rw (ne_eqb u.page v.page ne) (count_less t 1 u (with_entry v l) l (count_with t v l))
]

count_other : (t : ℕ) (v : Unhomed) (l : List Unhomed) → v.slot ≢ t → count_in t (with_entry v l) ≤ count_in t l + 0
count_other t v [] apart = omega (arith, count_there t v [] apart)
count_other t v (u ∷ l) apart = elim (cases_eq u.page v.page) [
  | inl e ↦ rw (eq-eqb u.page v.page e) (let a = count_there t v l apart in let b = count_least t u l in omega (arith, a, b))
  | inr ne ↦ rw (ne_eqb u.page v.page ne) (count_less t 0 u (with_entry v l) l (count_other t v l apart))
]

count_after : (t slot j : ℕ) (named : List Image) (old : List Unhomed) → count_in t (unhomed_after slot j named old) ≤ count_in t old + length named
count_after t slot j [] old = omega arith
count_after t slot j (image ∷ rest) old =
    let v : Unhomed = record { page = image.0; slot = slot; image = j } in
    omega (arith, count_after t slot (suc j) rest (with_entry v old), count_with t v old)

count_after_other : (t slot j : ℕ) (named : List Image) (old : List Unhomed) → slot ≢ t → count_in t (unhomed_after slot j named old) ≤ count_in t old
count_after_other t slot j [] old apart = omega arith
count_after_other t slot j (image ∷ rest) old apart =
    let v : Unhomed = record { page = image.0; slot = slot; image = j } in
    omega (arith, count_after_other t slot (suc j) rest (with_entry v old) apart, count_other t v old apart)

-- no entry is of a slot that isn't one of theirs
count_none : (t : ℕ) (order : List ℕ) (l : List Unhomed) → ¬ IsListed t order → AllByRecursion (IsOf order) l → count_in t l ≡ 0
count_none t order [] out of = refl
count_none t order (u ∷ l) out of = count_there t u l (λ is. out (subst (λ s. IsListed s order) is (among_listed u.slot order of.0))) ∙ count_none t order l out of.1

-- at most as many of each slot as it has images, after a post into another
pub few_after : (slot : ℕ) (order : List ℕ) (named : List Image) (old : List Unhomed) → length named ≤ 31 → ¬ IsListed slot order → AllByRecursion (IsOf order) old
    → ((t : ℕ) → count_in t old ≤ 31) → (t : ℕ) → count_in t (unhomed_after slot 0 named old) ≤ 31
few_after slot order named old few out of each t = ⊎_elim
    (λ (e : slot ≡ t).
    let none : count_in slot old ≡ 0 = count_none slot order old out of in
    omega (arith, few, ap (λ s. count_in s old) (sym e), none, count_after t slot 0 named old))
    (λ (ne : slot ≡ t → ⊥). omega (arith, each t, count_after_other t slot 0 named old ne))
    (cases_eq slot t)

-- ---- without those of a page

count_others : (t n : ℕ) (l : List Unhomed) → count_in t (others n l) ≤ count_in t l + 0
count_others t n [] = omega arith
count_others t n (u ∷ l) = ⊎_elim
    (λ (is : u.page ≡ n). omega (arith, ap (count_in t) (others_here n u l is), count_others t n l, count_least t u l))
    (λ (ne : u.page ≡ n → ⊥). omega (arith, ap (count_in t) (others_there n u l ne), count_less t 0 u (others n l) l (count_others t n l)))
    (cases_eq u.page n)

pub few_others : (n : ℕ) (l : List Unhomed) → ((t : ℕ) → count_in t l ≤ 31) → (t : ℕ) → count_in t (others n l) ≤ 31
few_others n l each t = omega (arith, each t, count_others t n l)

-- ---- of all slots

-- those of the other slots
abbrev elsewhere : ℕ → List Unhomed → List Unhomed
elsewhere t [] = []
elsewhere t (u ∷ l) = if u.slot == t then elsewhere t l else u ∷ elsewhere t l

elsewhere_here : (t : ℕ) (u : Unhomed) (l : List Unhomed) → u.slot ≡ t → elsewhere t (u ∷ l) ≡ elsewhere t l
elsewhere_here t u l is = cond-true (u.slot == t) (elsewhere t l) (u ∷ elsewhere t l) (eq-eqb u.slot t is)

elsewhere_there : (t : ℕ) (u : Unhomed) (l : List Unhomed) → u.slot ≢ t → elsewhere t (u ∷ l) ≡ u ∷ elsewhere t l
elsewhere_there t u l ne = cond-false (u.slot == t) (elsewhere t l) (u ∷ elsewhere t l) (ne_eqb u.slot t ne)

all_elsewhere : (t : ℕ) (l : List Unhomed) → length l ≡ count_in t l + length (elsewhere t l)
all_elsewhere t [] = refl
all_elsewhere t (u ∷ l) = ⊎_elim
    (λ (is : u.slot ≡ t). omega (arith, all_elsewhere t l, count_here t u l is, ap (length {A = Unhomed}) (elsewhere_here t u l is)))
    (λ (ne : u.slot ≡ t → ⊥). omega (arith, all_elsewhere t l, count_there t u l ne, ap (length {A = Unhomed}) (elsewhere_there t u l ne)))
    (cases_eq u.slot t)

count_elsewhere : (s t : ℕ) (l : List Unhomed) → count_in s (elsewhere t l) ≤ count_in s l + 0
count_elsewhere s t [] = omega arith
count_elsewhere s t (u ∷ l) = ⊎_elim
    (λ (is : u.slot ≡ t). omega (arith, ap (count_in s) (elsewhere_here t u l is), count_elsewhere s t l, count_least s u l))
    (λ (ne : u.slot ≡ t → ⊥). omega (arith, ap (count_in s) (elsewhere_there t u l ne), count_less s 0 u (elsewhere t l) l (count_elsewhere s t l)))
    (cases_eq u.slot t)

of_rest : (t : ℕ) (order : List ℕ) (u : Unhomed) → u.slot ≢ t → IsOf (t ∷ order) u → IsOf order u
of_rest t order u ne is = sym (cond-false (t == u.slot) true (is_among u.slot order) (ne_eqb t u.slot (λ e. ne (sym e)))) ∙ is

of_elsewhere : (t : ℕ) (order : List ℕ) (l : List Unhomed) → AllByRecursion (IsOf (t ∷ order)) l → AllByRecursion (IsOf order) (elsewhere t l)
of_elsewhere t order [] of = tt
of_elsewhere t order (u ∷ l) of = ⊎_elim
    (λ (is : u.slot ≡ t). subst (AllByRecursion (IsOf order)) (sym (elsewhere_here t u l is)) (of_elsewhere t order l of.1))
    (λ (ne : u.slot ≡ t → ⊥).
    let both : AllByRecursion (IsOf order) (u ∷ elsewhere t l) = (of_rest t order u ne of.0, of_elsewhere t order l of.1) in
    subst (AllByRecursion (IsOf order)) (sym (elsewhere_there t u l ne)) both)
    (cases_eq u.slot t)

-- at most 31 for each slot
pub few_all : (order : List ℕ) (l : List Unhomed) → AllByRecursion (IsOf order) l → ((t : ℕ) → count_in t l ≤ 31) → length l ≤ 31 * length order
few_all [] [] of each = omega arith
few_all [] (u ∷ l) of each = absurd (among_listed u.slot [] of.0)
few_all (t ∷ order) l of each =
    let rest = few_all order (elsewhere t l) (of_elsewhere t order l of) (λ s. omega (arith, each s, count_elsewhere s t l)) in
    omega (arith, rest, each t, all_elsewhere t l)

-- no entry is of the oldest slot
pub of_later : (t : ℕ) (order : List ℕ) (l : List Unhomed) → waiting_in t l ≡ [] → AllByRecursion (IsOf (t ∷ order)) l → AllByRecursion (IsOf order) l
of_later t order [] none of = tt
of_later t order (u ∷ l) none of =
    let count : count_in t (u ∷ l) ≡ 0 = ap (length {A = ℕ}) none in
    ⊎_elim
    (λ (is : u.slot ≡ t). absurd (omega (arith, count, count_here t u l is)))
    (λ (ne : u.slot ≡ t → ⊥). (of_rest t order u ne of.0, of_later t order l (sym (waiting_there t u l ne) ∙ none) of.1))
    (cases_eq u.slot t)
