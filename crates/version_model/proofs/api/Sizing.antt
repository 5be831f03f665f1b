-- Octets of entries, below a key and in all.
use Rattle.std.proofs.Common.{◌≡◌, ℕ, zero, suc, ◌+◌, ◌<◌, ◌≤◌, ◌⊎◌, inl, inr, List, [], ◌∷◌, ◌++◌, length, drop, Some, slice_get, refl, sym, ◌∙◌, ap, subst, arith, cond}
use Rattle.std.specs.Prelude.{nat_lt}
use Rattle.std.proofs.lemmas.Bool.{cases_lt, cases_eq}
use Rattle.std.proofs.lemmas.Bool.Decides.{nat_tests}
use Rattle.std.proofs.lemmas.Option.{same_Some, none-some}
use Rattle.version_model.specs.Versions.{Version, Has, AsOf, IsRising}
use Rattle.version_model.specs.LeafVersions.{IsFrom}
use Rattle.version_model.specs.Sizes.{entry_octets, total, octets, entry_octets_below, octets_below, FewBelow, IsSingle, AreSmall}

drop_suc : (vs : List Version) (i : ℕ) (v : Version) → slice_get vs i ≡ Some v → drop i vs ≡ v ∷ drop (suc i) vs
drop_suc [] i v at = absurd (none-some v at)
drop_suc (x ∷ xs) zero v at = ap (λ y. y ∷ xs) (same_Some x v at)
drop_suc (x ∷ xs) (suc i) v at = drop_suc xs i v at

pub drop_at : (vs : List Version) (i : ℕ) (v : Version) → slice_get vs i ≡ Some v → drop i vs ≡ v ∷ drop (i + 1) vs
drop_at vs i v at = subst (λ n. drop i vs ≡ v ∷ drop n vs) (let h : suc i ≡ i + 1 = omega arith in h) (drop_suc vs i v at)

pub drop_all : (vs : List Version) → drop (length vs) vs ≡ []
drop_all [] = refl
drop_all (x ∷ xs) = drop_all xs

-- the rest from a place on: the version there, and the rest after it
pub total-drop : (f : Version → ℕ) (vs : List Version) (i : ℕ) (v : Version) → slice_get vs i ≡ Some v → total f (drop i vs) ≡ f v + total f (drop (i + 1) vs)
total-drop f vs i v at = ap (total f) (drop_at vs i v at)

pub total-all : (f : Version → ℕ) (vs : List Version) → total f (drop (length vs) vs) ≡ 0
total-all f vs = ap (total f) (drop_all vs)

pub total-push : (f : Version → ℕ) (vs : List Version) (v : Version) → total f (vs ++ v ∷ []) ≡ total f vs + f v
total-push f [] v = omega arith
total-push f (x ∷ xs) v = omega (arith, total-push f xs v)

pub total-le : (f g : Version → ℕ) → ((v : Version) → f v ≤ g v) → (vs : List Version) → total f vs ≤ total g vs
total-le f g le [] = omega arith
total-le f g le (v ∷ vs) = omega (arith, le v, total-le f g le vs)

pub total-sum : (f g h : Version → ℕ) → ((v : Version) → f v ≡ g v + h v) → (vs : List Version) → total f vs ≡ total g vs + total h vs
total-sum f g h e [] = omega arith
total-sum f g h e (v ∷ vs) = omega (arith, e v, total-sum f g h e vs)

pub octets_below-le : (key : ℕ) (vs : List Version) → octets_below key vs ≤ octets vs
octets_below-le key vs = total-le (entry_octets_below key) entry_octets (λ v. grind (arith, nat_tests)) vs

abbrev entry_octets_at : ℕ → Version → ℕ
entry_octets_at key v = cond (nat_lt key v.key) 0 (cond (nat_lt v.key key) 0 (entry_octets v))

below_suc : (n : ℕ) (v : Version) → entry_octets_below (suc n) v ≡ entry_octets_below n v + entry_octets_at n v
below_suc n v = grind (arith, nat_tests)

below_zero : (v : Version) → entry_octets_below 0 v ≡ 0
below_zero v = grind (arith, nat_tests)

total-zero : (f : Version → ℕ) → ((v : Version) → f v ≡ 0) → (vs : List Version) → total f vs ≡ 0
total-zero f e [] = refl
total-zero f e (v ∷ vs) = omega (arith, e v, total-zero f e vs)

-- no octets of a key, or a version of the key
at_some : (n : ℕ) (vs : List Version) → (total (entry_octets_at n) vs ≡ 0) ⊎ ((v : Version) × Has vs v × (v.key ≡ n))
at_some n [] = inl refl
at_some n (v ∷ vs) = elim (cases_eq v.key n) [
  | inl e ↦ inr (v, record { place = 0; is = refl }, e)
  | inr ne ↦ elim (at_some n vs) [
    | inl none ↦ (let here : entry_octets_at n v ≡ 0 = grind (arith, nat_tests) in inl (omega (arith, none, here)))
    | inr some ↦ inr (some.0, record { place = suc some.1.place; is = some.1.is }, some.2)
  ]
]

pub below_is : (key : ℕ) (v : Version) → v.key < key → entry_octets_below key v ≡ entry_octets v
below_is key v lt = grind (arith, nat_tests)

pub below_not : (key : ℕ) (v : Version) → key ≤ v.key → entry_octets_below key v ≡ 0
below_not key v le = grind (arith, nat_tests)

-- there are octets below a key only where there is a version below it
pub below_some : (key : ℕ) (vs : List Version) → (octets_below key vs ≡ 0) ⊎ ((v : Version) × Has vs v × (v.key < key))
below_some key [] = inl refl
below_some key (v ∷ vs) = elim (cases_lt v.key key) [
  | inl lt ↦ inr (v, record { place = 0; is = refl }, lt)
  | inr ge ↦ elim (below_some key vs) [
    | inl none ↦ (let here : entry_octets_below key v ≡ 0 = below_not key v ge in inl (omega (arith, none, here)))
    | inr some ↦ inr (some.0, record { place = suc some.1.place; is = some.1.is }, some.2)
  ]
]

-- all octets are below a key that is above all keys
pub below_all : (key : ℕ) (vs : List Version) → ((v : Version) → Has vs v → v.key < key) → octets_below key vs ≡ octets vs
below_all key [] all = refl
below_all key (v ∷ vs) all =
    let here : entry_octets_below key v ≡ entry_octets v = below_is key v (all v (record { place = 0; is = refl })) in
    let rest = below_all key vs (λ w has. all w (record { place = suc has.place; is = has.is })) in
    omega (arith, here, rest)

at_none : (n : ℕ) (vs : List Version) → ((v : Version) → Has vs v → v.key ≡ n → ⊥) → total (entry_octets_at n) vs ≡ 0
at_none n vs never = elim (at_some n vs) [
  | inl none ↦ none
  | inr some ↦ absurd (never some.0 some.1 some.2)
]

at_le : (n : ℕ) (v : Version) → entry_octets_at n v ≤ entry_octets v
at_le n v = grind (arith, nat_tests)

at_other : (n : ℕ) (v : Version) → (v.key ≡ n → ⊥) → entry_octets_at n v ≡ 0
at_other n v ne = grind (arith, nat_tests)

-- where each key has one version, the octets of a key are those of an entry
at_small : (n most : ℕ) (vs : List Version) → IsSingle vs → AreSmall vs most → total (entry_octets_at n) vs ≤ most
at_small n most [] single small = omega arith
at_small n most (v ∷ vs) single small = elim (cases_eq v.key n) [
  | inl here ↦ (let none = at_none n vs (λ w has e. single.one 0 (suc has.place) v w (omega arith) refl has.is (here ∙ sym e)) in
      omega (arith, none, at_le n v, small.small v (record { place = 0; is = refl })))
  | inr ne ↦ omega (
    arith,
    at_other n v ne,
    at_small n most vs
        (record { one = λ i j x y lt at_i at_j e. single.one (suc i) (suc j) x y (omega arith) at_i at_j e })
        (record { small = λ w has. small.small w (record { place = suc has.place; is = has.is }) }),
  )
]

-- Where each version before a key has few octets below it, the key has hardly more.
pub below_bounded : (vs : List Version) (least most n : ℕ) → IsSingle vs → AreSmall vs most → 0 < least → FewBelow vs least n → octets_below n vs < least + most
below_bounded vs least most zero single small some few = omega (arith, total-zero (entry_octets_below 0) below_zero vs)
below_bounded vs least most (suc n) single small some few =
    let step = total-sum (entry_octets_below (suc n)) (entry_octets_below n) (entry_octets_at n) (below_suc n) vs in
    elim (at_some n vs) [
      | inl none ↦ omega (arith, step, none, below_bounded vs least most n single small some (record { few = λ v has lt. few.few v has (omega arith) }))
      | inr here ↦ (let before : octets_below here.0.key vs < least = few.few here.0 here.1 (omega (arith, here.2)) in
          let at_n : octets_below n vs < least = subst (λ k. octets_below k vs < least) here.2 before in
          omega (arith, step, at_n, at_small n most vs single small))
    ]

-- of each key one version stays from the stamp of the last one on
pub IsFrom-single : (leaf newer : List Version) (at : ℕ) → IsFrom leaf at newer → IsRising newer → ((v : Version) → Has leaf v → v.stamp ≤ at) → IsSingle newer
IsFrom-single leaf newer at from rising upto =
    let holds : (v : Version) → Has newer v → AsOf leaf v.key at v = λ v has. elim (cases_lt v.stamp at) [
      | inl before ↦ from.copies v has before
      | inr late ↦ record { has = from.is_in v has; of_key = refl; not_after = upto v (from.is_in v has); greatest = λ w w_has same w_upto. omega arith }
    ] in
    record {
      one = λ i j v w lt at_i at_j e.
          (let hv : AsOf leaf v.key at v = holds v (record { place = i; is = at_i }) in
          let hw : AsOf leaf w.key at w = holds w (record { place = j; is = at_j }) in
          let up : w.stamp ≤ v.stamp = hv.greatest w hw.has (sym e) hw.not_after in
          omega (arith, up, rising.rises i j v w lt at_i at_j));
    }
