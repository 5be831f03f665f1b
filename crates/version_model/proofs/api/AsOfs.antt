-- The version as of a stamp, and what a lookup returns by it.
use Rattle.std.proofs.Common.{◌≡◌, ℕ, List, Option, Some, None, IsSome, slice_get, sym, ◌∙◌, ap, subst, arith, inl, inr, true, false}
use Rattle.version_model.specs.Versions.{Version, Has, AsOf, found_at, found_version, Answers, IsRising}
use Rattle.version_model.specs.Looks.{IsLive}
use Rattle.std.specs.Option.{option_map, is_some}
use Rattle.std.proofs.lemmas.Bool.{cases_order}
use Rattle.std.proofs.lemmas.Option.{same_Some}

-- rising versions with one stamp are one
pub same_stamp : (vs : List Version) (v w : Version) → IsRising vs → Has vs v → Has vs w → v.stamp ≡ w.stamp → v ≡ w
same_stamp vs v w rising h i e = elim (cases_order h.place i.place) [
  | inl here ↦ same_Some v w (sym h.is ∙ subst (λ k. slice_get vs k ≡ Some w) (sym here) i.is)
  | inr other ↦ elim other [
    | inl lt ↦ absurd (omega (arith, rising.rises h.place i.place v w lt h.is i.is))
    | inr gt ↦ absurd (omega (arith, rising.rises i.place h.place w v gt i.is h.is))
  ]
]

-- one version holds
pub AsOf-one : (vs : List Version) (key s : ℕ) (v w : Version) → IsRising vs → AsOf vs key s v → AsOf vs key s w → v ≡ w
AsOf-one vs key s v w rising h i = same_stamp vs v w rising h.has i.has (omega (arith, h.greatest w i.has i.of_key i.not_after, i.greatest v h.has h.of_key h.not_after))

-- the version that holds is the answer
pub answer_of : (vs : List Version) (key s : ℕ) (v : Version) (o : Option (List ℕ)) → IsRising vs → AsOf vs key s v → v.value ≡ o → Answers vs key s (option_map (found_at v.stamp) o)
answer_of vs key s v None rising h is = λ w i. ap (λ (x : Version). x.value) (AsOf-one vs key s w v rising i h) ∙ is
answer_of vs key s v (Some value) rising h is =
    let same : v ≡ found_version key (found_at v.stamp value) = ap (λ k. record { key = k; stamp = v.stamp; value = v.value }) h.of_key ∙ ap (λ o. record { key = key; stamp = v.stamp; value = o }) is in
    subst (AsOf vs key s) same h

pub no_answer : (vs : List Version) (key s : ℕ) → ((v : Version) → AsOf vs key s v → ⊥) → Answers vs key s None
no_answer vs key s none = λ v h. absurd (none v h)

-- the version that holds is a value, or none
pub live_of : (vs : List Version) (key s : ℕ) (v : Version) (o : Option (List ℕ)) → v.value ≡ o → AsOf vs key s v → IsSome v.value → IsLive vs s key
live_of vs key s v None e h some = absurd (let f : true ≡ false = sym some ∙ ap is_some e in cc)
live_of vs key s v (Some value) e h some =
    let same : v ≡ found_version key (found_at v.stamp value) = ap (λ k. record { key = k; stamp = v.stamp; value = v.value }) h.of_key ∙ ap (λ o. record { key = key; stamp = v.stamp; value = o }) e in
    (found_at v.stamp value, subst (AsOf vs key s) same h)

pub dead_of : (vs : List Version) (key s : ℕ) (v : Version) → IsRising vs → AsOf vs key s v → v.value ≡ None → Answers vs key s None
dead_of vs key s v rising h none = λ w i. ap (λ (x : Version). x.value) (AsOf-one vs key s w v rising i h) ∙ none
