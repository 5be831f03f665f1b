-- The least key with a value among the first n versions, and parts of keys.
use Rattle.std.proofs.Common.{◌≡◌, ℕ, zero, suc, ◌+◌, ◌<◌, ◌≤◌, ◌⊎◌, inl, inr, List, [], ◌∷◌, ◌++◌, length, drop, filter, Option, Some, None, slice_get, refl, sym, ◌∙◌, ap, subst, arith, Bool, true, false}
use Rattle.std.proofs.lemmas.Bool.{cases_lt}
use Rattle.std.proofs.lemmas.Option.{slice_get_within, same_Some, none-some}
use Rattle.std.proofs.lemmas.List.{append-nil}
use Rattle.version_model.specs.Versions.{Version, Answers}
use Rattle.version_model.specs.Looks.{IsLive, IsLeastLive}
use Rattle.version_model.specs.inner.Lower.{IsLower}

-- among the first n versions no key from `from` on and below `to` has a value
pub record DeadWithin (vs : List Version) (s from n to : ℕ) : Type 0 where
  pub dead : (k : ℕ) (v : Version) → k < n → slice_get vs k ≡ Some v → from ≤ v.key → v.key < to → Answers vs v.key s None

pub record DeadFrom (vs : List Version) (s from n : ℕ) : Type 0 where
  pub dead : (k : ℕ) (v : Version) → k < n → slice_get vs k ≡ Some v → from ≤ v.key → Answers vs v.key s None

abbrev pub LeastBelow : List Version → ℕ → ℕ → ℕ → Option ℕ → Type 0
LeastBelow vs s from n None = DeadFrom vs s from n
LeastBelow vs s from n (Some best) = (from ≤ best) × IsLive vs s best × DeadWithin vs s from n best

module _ (vs : List Version) (s from n : ℕ) (v : Version) (at : slice_get vs n ≡ Some v) where
  here : (k : ℕ) (w : Version) → k < n + 1 → slice_get vs k ≡ Some w → (k < n) ⊎ (w ≡ v)
  here k w lt is = elim (cases_lt k n) [
    | inl below ↦ inl below
    | inr above ↦ inr (same_Some w v (sym is ∙ subst (λ i. slice_get vs i ≡ Some v) (let e : n ≡ k = omega arith in e) at))
  ]

  -- the version's key has a value and is lower
  pub LeastBelow-yes : (best : Option ℕ) → from ≤ v.key → IsLower best v.key → IsLive vs s v.key → LeastBelow vs s from n best → LeastBelow vs s from (n + 1) (Some v.key)
  LeastBelow-yes None above lower live h = (
    above,
    live,
    record {
      dead = λ k w lt is low high. elim (here k w lt is) [
        | inl old ↦ h.dead k w old is low
        | inr new ↦ absurd (omega (arith, ap (λ (x : Version). x.key) new))
      ];
    },
  )
  LeastBelow-yes (Some best) above lower live h = (
    above,
    live,
    record {
      dead = λ k w lt is low high. elim (here k w lt is) [
        | inl old ↦ h.2.dead k w old is low (omega arith)
        | inr new ↦ absurd (omega (arith, ap (λ (x : Version). x.key) new))
      ];
    },
  )

  -- the version's key counts for nothing: it is too low, not lower than the best, or has no value
  pub LeastBelow-no : (best : Option ℕ) → (from ≤ v.key → IsLower best v.key → Answers vs v.key s None) → LeastBelow vs s from n best → LeastBelow vs s from (n + 1) best
  LeastBelow-no None never h = record {
    dead = λ k w lt is low. elim (here k w lt is) [
      | inl old ↦ h.dead k w old is low
      | inr new ↦ subst (λ (x : Version). Answers vs x.key s None) (sym new) (never (omega (arith, ap (λ (x : Version). x.key) new)) tt)
    ];
  }
  LeastBelow-no (Some best) never h = (
    h.0,
    h.1,
    record {
      dead = λ k w lt is low high. elim (here k w lt is) [
        | inl old ↦ h.2.dead k w old is low high
        | inr new ↦ subst (λ (x : Version). Answers vs x.key s None) (sym new) (never (omega (arith, ap (λ (x : Version). x.key) new)) (omega (arith, ap (λ (x : Version). x.key) new)))
      ];
    },
  )

pub LeastBelow-end : (vs : List Version) (s from : ℕ) (best : Option ℕ) → LeastBelow vs s from (length vs) best → IsLeastLive vs s from best
LeastBelow-end vs s from None h = λ key above v holds.
    subst (λ k. Answers vs k s None) holds.of_key (h.dead holds.has.place v (slice_get_within vs holds.has.place v holds.has.is) holds.has.is (omega (arith, holds.of_key))) v holds
LeastBelow-end vs s from (Some best) h = (
  h.0,
  h.1,
  λ key above below v holds.
      subst (λ k. Answers vs k s None) holds.of_key (h.2.dead holds.has.place v (slice_get_within vs holds.has.place v holds.has.is) holds.has.is (omega (arith, holds.of_key)) (omega (arith, holds.of_key))) v holds,
)

-- a loop that keeps what passes
drop_here : {X : Type 0} (xs : List X) (i : ℕ) (x : X) → slice_get xs i ≡ Some x → drop i xs ≡ x ∷ drop (suc i) xs
drop_here [] i x at = absurd (none-some x at)
drop_here (y ∷ xs) zero x at = ap (λ z. z ∷ xs) (same_Some y x at)
drop_here (y ∷ xs) (suc i) x at = drop_here xs i x at

drop_none : {X : Type 0} (xs : List X) (i : ℕ) → length xs ≤ i → drop i xs ≡ []
drop_none [] zero le = refl
drop_none [] (suc i) le = refl
drop_none (y ∷ xs) zero le = absurd (omega arith)
drop_none (y ∷ xs) (suc i) le = drop_none xs i (omega arith)

append_one : {X : Type 0} (xs : List X) (x : X) (ys : List X) → (xs ++ x ∷ []) ++ ys ≡ xs ++ (x ∷ ys)
append_one [] x ys = refl
append_one (z ∷ xs) x ys = ap (λ t. z ∷ t) (append_one xs x ys)

filter_yes : {X : Type 0} (p : X → Bool) (x : X) (xs : List X) → p x ≡ true → filter p (x ∷ xs) ≡ x ∷ filter p xs
filter_yes p x xs is = rw is refl

filter_no : {X : Type 0} (p : X → Bool) (x : X) (xs : List X) → p x ≡ false → filter p (x ∷ xs) ≡ filter p xs
filter_no p x xs is = rw is refl

module _ {X : Type 0} (p : X → Bool) (xs kept : List X) (i : ℕ) (x : X) (at : slice_get xs i ≡ Some x) (before : kept ++ filter p (drop i xs) ≡ filter p xs) where
  pub filtered_yes : (new : List X) → new ≡ kept ++ x ∷ [] → p x ≡ true → new ++ filter p (drop (i + 1) xs) ≡ filter p xs
  filtered_yes new pushed is =
      let rest : filter p (drop i xs) ≡ x ∷ filter p (drop (suc i) xs) = ap (filter p) (drop_here xs i x at) ∙ filter_yes p x (drop (suc i) xs) is in
      let e : i + 1 ≡ suc i = omega arith in
      rw (e, pushed) (append_one kept x (filter p (drop (suc i) xs)) ∙ ap (λ t. kept ++ t) (sym rest) ∙ before)

  pub filtered_no : p x ≡ false → kept ++ filter p (drop (i + 1) xs) ≡ filter p xs
  filtered_no is =
      let rest : filter p (drop i xs) ≡ filter p (drop (suc i) xs) = ap (filter p) (drop_here xs i x at) ∙ filter_no p x (drop (suc i) xs) is in
      let e : i + 1 ≡ suc i = omega arith in
      rw e (ap (λ t. kept ++ t) (sym rest) ∙ before)

pub filtered_all : {X : Type 0} (p : X → Bool) (xs kept : List X) (i : ℕ) → length xs ≤ i → kept ++ filter p (drop i xs) ≡ filter p xs → kept ≡ filter p xs
filtered_all p xs kept i le before = sym (append-nil kept) ∙ ap (λ t. kept ++ filter p t) (sym (drop_none xs i le)) ∙ before
