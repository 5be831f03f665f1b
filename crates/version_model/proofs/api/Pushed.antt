-- A list of versions with one more at its end.
use Rattle.std.proofs.Common.{◌≡◌, ℕ, zero, suc, ◌<◌, ◌⊎◌, inl, inr, List, [], ◌∷◌, ◌++◌, length, Some, slice_get, refl, sym, subst, ap, arith}
use Rattle.std.proofs.lemmas.Option.{same_Some, none-some}
use Rattle.version_model.specs.Versions.{Version, Has, IsRising, IsAbove, Adds}

pub no_at_nil : {X : Type 0} (k : ℕ) (x : X) → slice_get [] k ≡ Some x → ⊥
no_at_nil k x h = none-some x h

pub Has-nil : (v : Version) → Has [] v → ⊥
Has-nil v h = no_at_nil h.place v h.is

-- an element of a list with one more at its end
pub get-push : {X : Type 0} (xs : List X) (x y : X) (k : ℕ) → slice_get (xs ++ x ∷ []) k ≡ Some y → ((k < length xs) × (slice_get xs k ≡ Some y)) ⊎ ((k ≡ length xs) × (y ≡ x))
get-push [] x y zero h = inr (refl, sym (same_Some x y h))
get-push [] x y (suc k) h = absurd (none-some y h)
get-push (z ∷ xs) x y zero h = inl (omega arith, h)
get-push (z ∷ xs) x y (suc k) h = elim (get-push xs x y k h) [
  | inl old ↦ inl (omega (arith, old.0), old.1)
  | inr new ↦ inr (ap suc new.0, new.1)
]

pub get-push_old : {X : Type 0} (xs : List X) (x y : X) (k : ℕ) → slice_get xs k ≡ Some y → slice_get (xs ++ x ∷ []) k ≡ Some y
get-push_old [] x y k h = absurd (none-some y h)
get-push_old (z ∷ xs) x y zero h = h
get-push_old (z ∷ xs) x y (suc k) h = get-push_old xs x y k h

pub get-push_new : {X : Type 0} (xs : List X) (x : X) → slice_get (xs ++ x ∷ []) (length xs) ≡ Some x
get-push_new [] x = refl
get-push_new (z ∷ xs) x = get-push_new xs x

pub Has-push_cases : (vs : List Version) (v w : Version) → Has (vs ++ v ∷ []) w → Has vs w ⊎ (w ≡ v)
Has-push_cases vs v w h = elim (get-push vs v w h.place h.is) [
  | inl old ↦ inl (record { place = h.place; is = old.1 })
  | inr new ↦ inr new.1
]

pub Has-push_old : (vs : List Version) (v w : Version) → Has vs w → Has (vs ++ v ∷ []) w
Has-push_old vs v w h = record { place = h.place; is = get-push_old vs v w h.place h.is }

pub Has-push_new : (vs : List Version) (v : Version) → Has (vs ++ v ∷ []) v
Has-push_new vs v = record { place = length vs; is = get-push_new vs v }

-- a later version at the end keeps the order
pub IsRising-push : (vs : List Version) (v : Version) → IsRising vs → IsAbove vs v.stamp → IsRising (vs ++ v ∷ [])
IsRising-push vs v rising above = record {
  rises = λ i j x y lt at_i at_j. elim (get-push vs v x i at_i) [
    | inl old_i ↦ elim (get-push vs v y j at_j) [
      | inl old_j ↦ rising.rises i j x y lt old_i.1 old_j.1
      | inr new_j ↦ subst (λ (z : Version). x.stamp < z.stamp) (sym new_j.1) (above.above x (record { place = i; is = old_i.1 }))
    ]
    | inr new_i ↦ elim (get-push vs v y j at_j) [
      | inl old_j ↦ absurd (omega (arith, old_j.0, new_i.0))
      | inr new_j ↦ absurd (omega (arith, new_j.0, new_i.0))
    ]
  ];
}

-- one version more at the end adds it
pub Adds-push : (vs : List Version) (v : Version) → Adds vs v (vs ++ v ∷ [])
Adds-push vs v = record { same = λ w h. Has-push_cases vs v w h; keeps = λ w h. Has-push_old vs v w h; has = Has-push_new vs v }
