-- Parts that follow one another are one part.
use Rattle.std.proofs.Common.{◌≡◌, Option, ℕ, ◌<◌, ◌≤◌, inl, inr, List, [], ◌∷◌, ◌++◌, filter, Some, None, refl, sym, ◌∙◌, ap, arith, Bool, true, false, nat_eq}
use Rattle.std.proofs.lemmas.Bool.{cases_Bool, cases_lt, eqb-true, eq-eqb}
use Rattle.version_model.specs.Versions.{Version, Has, IsRising}
use Rattle.version_model.specs.Ranges.{end_or, stamp_end}
use Rattle.version_model.specs.Looks.{is_of, IsPart}
use Rattle.version_model.proofs.api.LooksShown.{Has-tail, Has-head, Has-cases, rising_tail, above_head, is_of_true, is_of_yes, is_of_no}

-- no version passes, so none is kept
none_kept : (p : Version → Bool) (vs : List Version) → ((v : Version) → Has vs v → p v ≡ false) → filter p vs ≡ []
none_kept p [] out = refl
none_kept p (v ∷ vs) out = rw (out v (Has-head v vs)) (none_kept p vs (λ w h. out w (Has-tail v vs w h)))

-- what passes alike is kept alike
kept_alike : (p q : Version → Bool) (vs : List Version) → ((v : Version) → Has vs v → p v ≡ q v) → filter p vs ≡ filter q vs
kept_alike p q [] same = refl
kept_alike p q (v ∷ vs) same =
    let rest = kept_alike p q vs (λ w h. same w (Has-tail v vs w h)) in
    let here = same v (Has-head v vs) in
    elim (cases_Bool (q v)) [
      | inl hit ↦ (let hit' : p v ≡ true = here ∙ hit in rw (hit, hit') (ap (λ l. v ∷ l) rest))
      | inr miss ↦ (let miss' : p v ≡ false = here ∙ miss in rw (miss, miss') rest)
    ]

module _ (key from to end : ℕ) (low : from ≤ to) (high : to ≤ end) where
  -- what is before `to` is of the first part alone
  early : (v : Version) → v.stamp < to → is_of key from to v ≡ is_of key from end v
  early v before = elim (cases_Bool (is_of key from end v)) [
    | inl hit ↦ (let h = is_of_true key from end v hit in is_of_yes key from to v h.0 h.1 before ∙ sym hit)
    | inr miss ↦ is_of_no key from to v (λ k f t. absurd (let hit : is_of key from end v ≡ true = is_of_yes key from end v k f (omega (arith, before, high)) in cc)) ∙ sym miss
  ]

  early_out : (v : Version) → v.stamp < to → is_of key to end v ≡ false
  early_out v before = is_of_no key to end v (λ k f t. omega (arith, before, f))

  -- what isn't is of the second part alone
  late : (v : Version) → to ≤ v.stamp → is_of key to end v ≡ is_of key from end v
  late v after = elim (cases_Bool (is_of key from end v)) [
    | inl hit ↦ (let h = is_of_true key from end v hit in is_of_yes key to end v h.0 after h.2 ∙ sym hit)
    | inr miss ↦ is_of_no key to end v (λ k f t. absurd (let hit : is_of key from end v ≡ true = is_of_yes key from end v k (omega (arith, low, after)) t in cc)) ∙ sym miss
  ]

  late_out : (v : Version) → to ≤ v.stamp → is_of key from to v ≡ false
  late_out v after = is_of_no key from to v (λ k f t. omega (arith, after, t))

  from_head : (v : Version) (vs : List Version) (w : Version) → IsRising (v ∷ vs) → to ≤ v.stamp → Has (v ∷ vs) w → to ≤ w.stamp
  from_head v vs w rising after h = elim (Has-cases v vs w h) [
    | inl is ↦ omega (arith, after, ap (λ (x : Version). x.stamp) is)
    | inr later ↦ omega (arith, after, above_head v vs w rising later)
  ]

  pub joined : (all : List Version) → IsRising all → filter (is_of key from to) all ++ filter (is_of key to end) all ≡ filter (is_of key from end) all
  joined [] rising = refl
  joined (v ∷ vs) rising = elim (cases_lt v.stamp to) [
    | inl before ↦ (
        let rest = joined vs (rising_tail v vs rising) in
        let out : is_of key to end v ≡ false = early_out v before in
        let same : is_of key from to v ≡ is_of key from end v = early v before in
        elim (cases_Bool (is_of key from end v)) [
          | inl hit ↦ (let hit' : is_of key from to v ≡ true = same ∙ hit in rw (hit, hit', out) (ap (λ l. v ∷ l) rest))
          | inr miss ↦ (let miss' : is_of key from to v ≡ false = same ∙ miss in rw (miss, miss', out) rest)
        ])
    | inr after ↦ (
        let none : filter (is_of key from to) (v ∷ vs) ≡ [] = none_kept (is_of key from to) (v ∷ vs) (λ w h. late_out w (from_head v vs w rising after h)) in
        rw none (kept_alike (is_of key to end) (is_of key from end) (v ∷ vs) (λ w h. late w (from_head v vs w rising after h))))
  ]

-- a part goes on in the next one
pub part_on : (all versions more : List Version) (key from to : ℕ) (reported : Option ℕ) → IsRising all → IsPart all key from versions (Some to) → IsPart all key to more reported → IsPart all key from (versions ++ more) reported
part_on all versions more key from to reported rising first next =
    let one : versions ++ more ≡ filter (is_of key from to) all ++ filter (is_of key to (end_or reported)) all = λ i. first.are i ++ next.are i in
    let low : from ≤ to = omega (arith, first.above) in
    let high : to ≤ end_or reported = omega (arith, next.above) in
    record { above = omega (arith, first.above, next.above); are = one ∙ joined key from to (end_or reported) low high all rising }

-- a part from the first stamp on with no end has each version of the key
pub part_whole : (all versions : List Version) (key : ℕ) → ((v : Version) → Has all v → v.stamp < stamp_end) → IsPart all key 0 versions None → versions ≡ filter (λ v. nat_eq v.key key) all
part_whole all versions key fit part =
    part.are ∙ kept_alike (is_of key 0 stamp_end) (λ v. nat_eq v.key key) all (λ v h. elim (cases_Bool (nat_eq v.key key)) [
      | inl hit ↦ is_of_yes key 0 stamp_end v (eqb-true v.key key hit) (omega arith) (fit v h) ∙ sym hit
      | inr miss ↦ is_of_no key 0 stamp_end v (λ k f t. absurd (let hit : nat_eq v.key key ≡ true = eq-eqb v.key key k in cc)) ∙ sym miss
    ])
