-- What a sort by time keeps, what it puts first, and that it may be done before or after early ones are picked.
use Rattle.std.proofs.Common.{◌≡◌, ℕ, ◌+◌, ◌<◌, ◌≤◌, List, [], ◌∷◌, ◌++◌, length, take, drop, Bool, true, false, cond, leb, refl, sym, ap, ◌∙◌, subst, inl, inr, arith, zero, suc}
use Rattle.std.specs.List.{AllByRecursion, filter}
use Rattle.std.proofs.lemmas.Bool.{cond_both, cases_Bool, leb-true, leb-false, le-leb, lt-leb, false≢true}
use Rattle.std.proofs.lemmas.Bool.Decides.{nat_tests}
use Rattle.route_meaning.specs.Merged.{insert_by, by_time}
use Rattle.route_meaning.specs.Merged.{IsRising}

-- what is early stays early before its time
abbrev pub IsFront : {X : Type 0} → (X → ℕ) → (X → Bool) → Type 0
IsFront {X} time p = (x y : X) → time x ≤ time y → p y ≡ true → p x ≡ true

pub all_weaker : {X : Type 0} (P Q : X → Type 0) → ((x : X) → P x → Q x) → (xs : List X) → AllByRecursion P xs → AllByRecursion Q xs
all_weaker P Q f [] a = tt
all_weaker P Q f (x ∷ xs) a = (f x a.0, all_weaker P Q f xs a.1)

pub all_append : {X : Type 0} (P : X → Type 0) (xs ys : List X) → AllByRecursion P xs → AllByRecursion P ys → AllByRecursion P (xs ++ ys)
all_append P [] ys a b = b
all_append P (x ∷ xs) ys a b = (a.0, all_append P xs ys a.1 b)

pub all_filter : {X : Type 0} (P : X → Type 0) (p : X → Bool) (xs : List X) → AllByRecursion P xs → AllByRecursion P (filter p xs)
all_filter P p [] a = tt
all_filter P p (x ∷ xs) a = cond_both (p x) (x ∷ filter p xs) (filter p xs) (AllByRecursion P) (λ e. (a.0, all_filter P p xs a.1)) (λ e. all_filter P p xs a.1)

pub filter-none : {X : Type 0} (p : X → Bool) (xs : List X) → AllByRecursion (λ x. p x ≡ false) xs → filter p xs ≡ []
filter-none p [] a = refl
filter-none p (x ∷ xs) a = rw a.0 (filter-none p xs a.1)

pub all_insert_by : {X : Type 0} (time : X → ℕ) (P : X → Type 0) (x : X) (ys : List X) → P x → AllByRecursion P ys → AllByRecursion P (insert_by time x ys)
all_insert_by time P x [] p a = (p, tt)
all_insert_by time P x (y ∷ ys) p a = cond_both (leb (time x) (time y)) (x ∷ y ∷ ys) (y ∷ insert_by time x ys) (AllByRecursion P) (λ e. (p, a)) (λ e. (a.0, all_insert_by time P x ys p a.1))

pub all_by_time : {X : Type 0} (time : X → ℕ) (P : X → Type 0) (xs : List X) → AllByRecursion P xs → AllByRecursion P (by_time time xs)
all_by_time time P [] a = tt
all_by_time time P (x ∷ xs) a = all_insert_by time P x (by_time time xs) a.0 (all_by_time time P xs a.1)

pub rises_insert_by : {X : Type 0} (time : X → ℕ) (x : X) (ys : List X) → IsRising time ys → IsRising time (insert_by time x ys)
rises_insert_by time x [] r = (tt, tt)
rises_insert_by time x (y ∷ ys) r =
    cond_both (leb (time x) (time y)) (x ∷ y ∷ ys) (y ∷ insert_by time x ys) (IsRising time)
    (λ e. let le : time x ≤ time y = leb-true _ _ e in ((le, all_weaker _ _ (λ z h. omega arith) ys r.0), r))
    (λ e. let lt : time y < time x = leb-false _ _ e in (all_insert_by time (λ z. time y ≤ time z) x ys (omega arith) r.0, rises_insert_by time x ys r.1))

pub rises_by_time : {X : Type 0} (time : X → ℕ) (xs : List X) → IsRising time (by_time time xs)
rises_by_time time [] = tt
rises_by_time time (x ∷ xs) = rises_insert_by time x (by_time time xs) (rises_by_time time xs)

-- what is no later than each goes first
pub insert_by-first : {X : Type 0} (time : X → ℕ) (x : X) (ys : List X) → AllByRecursion (λ y. time x ≤ time y) ys → insert_by time x ys ≡ x ∷ ys
insert_by-first time x [] a = refl
insert_by-first time x (y ∷ ys) a = rw (le-leb (time x) (time y) a.0) refl

pub filter-insert_by : {X : Type 0} (time : X → ℕ) (p : X → Bool) → IsFront time p → (x : X) (ys : List X) → IsRising time ys → filter p (insert_by time x ys) ≡ cond (p x) (insert_by time x (filter p ys)) (filter p ys)
filter-insert_by time p f x [] r = refl
filter-insert_by time p f x (y ∷ ys) r =
    elim (cases_Bool (leb (time x) (time y))) [
      | inl le ↦
          let later : AllByRecursion (λ z. time x ≤ time z) (y ∷ ys) = (leb-true _ _ le, all_weaker _ _ (λ z h. let a : time x ≤ time y = leb-true _ _ le in omega arith) ys r.0) in
          rw (le, insert_by-first time x (filter p (y ∷ ys)) (all_filter _ p (y ∷ ys) later)) refl
      | inr gt ↦
          elim (cases_Bool (p y)) [
            | inl py ↦ elim (cases_Bool (p x)) [
              | inl px ↦ rw (gt, py, px) (rw (gt) (ap (λ l. y ∷ l) (filter-insert_by time p f x ys r.1 ∙ rw px refl)))
              | inr px ↦ rw (gt, py, px) (ap (λ l. y ∷ l) (filter-insert_by time p f x ys r.1 ∙ rw px refl))
            ]
            | inr py ↦
                let px : p x ≡ false = elim (cases_Bool (p x)) [ inl t ↦ absurd (false≢true (sym py ∙ f y x (let lt : time y < time x = leb-false _ _ gt in omega arith) t)) | inr e ↦ e ] in
                rw (gt, py, px) (filter-insert_by time p f x ys r.1 ∙ rw px refl)
          ]
    ]

pub filter-by_time : {X : Type 0} (time : X → ℕ) (p : X → Bool) → IsFront time p → (xs : List X) → filter p (by_time time xs) ≡ by_time time (filter p xs)
filter-by_time time p f [] = refl
filter-by_time time p f (x ∷ xs) =
    filter-insert_by time p f x (by_time time xs) (rises_by_time time xs) ∙
    elim (cases_Bool (p x)) [
      | inl e ↦ rw e (ap (insert_by time x) (filter-by_time time p f xs))
      | inr e ↦ rw e (filter-by_time time p f xs)
    ]

-- what is before all that stand after it, and is earlier than all that stand before it, goes first
pub by_time-first : {X : Type 0} (time : X → ℕ) (pre : List X) (x : X) (post : List X) → AllByRecursion (λ y. time x < time y) pre → AllByRecursion (λ y. time x ≤ time y) post → by_time time (pre ++ x ∷ post) ≡ x ∷ by_time time (pre ++ post)
by_time-first time [] x post a b = insert_by-first time x (by_time time post) (all_by_time time _ post b)
by_time-first time (y ∷ pre) x post a b = rw (by_time-first time pre x post a.1 b, lt-leb (time y) (time x) a.0) refl
