-- The search for the key at which a leaf is split, and loops that copy.
use Rattle.std.proofs.Common.{◌≡◌, ℕ, suc, ◌+◌, ◌<◌, ◌≤◌, ◌⊎◌, inl, inr, List, [], ◌∷◌, ◌++◌, length, drop, Option, Some, None, slice_get, refl, sym, ◌∙◌, ap, subst, arith, append_assoc, append-nil, length-append}
use Rattle.std.proofs.lemmas.Bool.{cases_lt}
use Rattle.std.proofs.lemmas.Option.{same_Some, slice_get_within}
use Rattle.version_model.specs.Versions.{Version, Has}
use Rattle.version_model.specs.inner.Lower.{IsLower}
use Rattle.version_model.specs.Sizes.{total, octets_below, IsSplitPoint}
use Rattle.version_model.proofs.api.Sizing.{drop_at, drop_all, total-push}

-- the search for the split point, after n versions
abbrev pub PointSo : List Version → ℕ → ℕ → Option ℕ → Type 0
PointSo vs least n None = (k : ℕ) (v : Version) → k < n → slice_get vs k ≡ Some v → octets_below v.key vs < least
PointSo vs least n (Some key) = (least ≤ octets_below key vs) × ((k : ℕ) (v : Version) → k < n → slice_get vs k ≡ Some v → v.key < key → octets_below v.key vs < least) × ((v : Version) × Has vs v × (v.key ≡ key))

pub here_or_before : (k n : ℕ) → k < n + 1 → (k < n) ⊎ (k ≡ n)
here_or_before k n lt = elim (cases_lt k n) [ inl h ↦ inl h | inr h ↦ inr (omega arith) ]

module _ (vs : List Version) (least n : ℕ) (v : Version) (at : slice_get vs n ≡ Some v) where
  pub same_here : (k : ℕ) (w : Version) → k ≡ n → slice_get vs k ≡ Some w → v ≡ w
  same_here k w e is = same_Some v w (sym at ∙ ap (slice_get vs) (sym e) ∙ is)

  few_before : (best : Option ℕ) → IsLower best v.key → PointSo vs least n best → (k : ℕ) (w : Version) → k < n → slice_get vs k ≡ Some w → w.key < v.key → octets_below w.key vs < least
  few_before None lower so k w lt is under = so k w lt is
  few_before (Some best) lower so k w lt is under = so.1 k w lt is (omega arith)

  pub PointSo-yes : (best : Option ℕ) → IsLower best v.key → least ≤ octets_below v.key vs → PointSo vs least n best → PointSo vs least (n + 1) (Some v.key)
  PointSo-yes best lower many so = (
    many,
    λ k w lt is under. elim (here_or_before k n lt) [
      | inl before ↦ few_before best lower so k w before is under
      | inr here ↦ absurd (omega (arith, ap (λ (x : Version). x.key) (same_here k w here is)))
    ],
    (v, record { place = n; is = at }, refl),
  )

  pub PointSo-few : (best : Option ℕ) → octets_below v.key vs < least → PointSo vs least n best → PointSo vs least (n + 1) best
  PointSo-few None few so = λ k w lt is. elim (here_or_before k n lt) [
    | inl before ↦ so k w before is
    | inr here ↦ subst (λ (x : Version). octets_below x.key vs < least) (same_here k w here is) few
  ]
  PointSo-few (Some best) few so = (
    so.0,
    λ k w lt is under. elim (here_or_before k n lt) [
      | inl before ↦ so.1 k w before is under
      | inr here ↦ subst (λ (x : Version). octets_below x.key vs < least) (same_here k w here is) few
    ],
    so.2,
  )

  pub PointSo-higher : (best : Option ℕ) → (IsLower best v.key → ⊥) → PointSo vs least n best → PointSo vs least (n + 1) best
  PointSo-higher None never so = absurd (never tt)
  PointSo-higher (Some best) never so = (
    so.0,
    λ k w lt is under. elim (here_or_before k n lt) [
      | inl before ↦ so.1 k w before is under
      | inr here ↦ absurd (never (omega (arith, ap (λ (x : Version). x.key) (same_here k w here is))))
    ],
    so.2,
  )

pub PointSo-end : (vs : List Version) (least : ℕ) (best : Option ℕ) → PointSo vs least (length vs) best → IsSplitPoint vs least best
PointSo-end vs least None so = λ key. record { few = λ v has lt. so has.place v (slice_get_within vs has.place v has.is) has.is }
PointSo-end vs least (Some key) so = (so.0, record { few = λ v has lt. so.1 has.place v (slice_get_within vs has.place v has.is) has.is lt }, so.2)

-- a copy of the first n versions
pub copied_more : (vs kept new : List Version) (n : ℕ) (v : Version) → slice_get vs n ≡ Some v → new ≡ kept ++ v ∷ [] → kept ++ drop n vs ≡ vs → new ++ drop (n + 1) vs ≡ vs
copied_more vs kept new n v at is so = ap (λ x. x ++ drop (n + 1) vs) is ∙ append_assoc kept (v ∷ []) (drop (n + 1) vs) ∙ ap (λ x. kept ++ x) (sym (drop_at vs n v at)) ∙ so

pub copied_all : (vs kept : List Version) (n : ℕ) → n ≡ length vs → kept ++ drop n vs ≡ vs → kept ≡ vs
copied_all vs kept n e so = sym (append-nil kept) ∙ ap (λ x. kept ++ x) (sym (ap (λ k. drop k vs) e ∙ drop_all vs)) ∙ so

-- one version more among those kept
pub kept_push : (f : Version → ℕ) (kept new : List Version) (v : Version) → new ≡ kept ++ v ∷ [] → total f new ≡ total f kept + f v
kept_push f kept new v is = ap (total f) is ∙ total-push f kept v

pub length_push : (kept new : List Version) (v : Version) → new ≡ kept ++ v ∷ [] → length new ≡ suc (length kept)
length_push kept new v is = omega (arith, ap length is, length-append kept (v ∷ []))
