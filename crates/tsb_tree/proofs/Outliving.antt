-- Whether a leaf has a version that isn't needed any more once it takes another one.
use Rattle.std.proofs.Common.{◌≡◌, ℕ, ◌<◌, ◌≤◌, ◌⊎◌, inl, inr, List, [], ◌∷◌, ◌++◌, length, Option, Some, None, refl, sym, ◌∙◌, ap, subst, arith}
use Rattle.std.proofs.lemmas.Bool.{cases_lt, false≢true}
use Rattle.std.specs.Prelude.{IsSome}
use Rattle.version_model.specs.Versions.{Version, Has, IsAbove, IsRising}
use Rattle.version_model.specs.LeafVersions.{IsFrom}
use Rattle.version_model.proofs.api.LooksShown.{Has-head, Has-cases, Has-tail, rising_one}
use Rattle.version_model.proofs.api.Pushed.{Has-nil, Has-push_cases, Has-push_old}
use Rattle.tsb_tree.specs.Outlived.{IsOutlived, HasOutlived}

-- a later one of the same key is among these
abbrev Later : List Version → Version → Type 0
Later ws old = (w : Version) × Has ws w × (w.key ≡ old.key) × (old.stamp < w.stamp)

abbrev IsLast : List Version → Version → Type 0
IsLast ws old = (w : Version) → Has ws w → w.key ≡ old.key → w.stamp ≤ old.stamp

still_last : (x : Version) (xs : List Version) (old : Version) → (x.key ≡ old.key → x.stamp ≤ old.stamp) → IsLast xs old → IsLast (x ∷ xs) old
still_last x xs old up last w h e = elim (Has-cases x xs w h) [
  | inl is ↦ (let k : w.key ≡ x.key = ap (λ (y : Version). y.key) is in let s : w.stamp ≡ x.stamp = ap (λ (y : Version). y.stamp) is in omega (arith, s, up (sym k ∙ e)))
  | inr rest ↦ last w rest e
]

later_first : (x : Version) (xs : List Version) (old : Version) → IsLast xs old → (old.stamp < x.stamp) ⊎ (x.stamp ≤ old.stamp) → (x.key < old.key) ⊎ (old.key ≤ x.key) → (old.key < x.key) ⊎ (x.key ≤ old.key) → Later (x ∷ xs) old ⊎ IsLast (x ∷ xs) old
later_first x xs old last (inr early) below above = inr (still_last x xs old (λ e. early) last)
later_first x xs old last (inl late) (inl below) above = inr (still_last x xs old (λ e. absurd (omega (arith, e, below))) last)
later_first x xs old last (inl late) (inr among) (inl above) = inr (still_last x xs old (λ e. absurd (omega (arith, e, above))) last)
later_first x xs old last (inl late) (inr among) (inr within) = inl (x, Has-head x xs, omega (arith, among, within), late)

later_or_last : (ws : List Version) (old : Version) → Later ws old ⊎ IsLast ws old
later_or_last [] old = inr (λ w h e. absurd (Has-nil w h))
later_or_last (x ∷ xs) old = elim (later_or_last xs old) [
  | inl found ↦ inl (found.0, Has-tail x xs found.0 found.1, found.2, found.3)
  | inr last ↦ later_first x xs old last (cases_lt old.stamp x.stamp) (cases_lt x.key old.key) (cases_lt old.key x.key)
]

-- a value, the last of its key
abbrev Stays : List Version → Version → Type 0
Stays ws old = IsSome old.value × IsLast ws old

abbrev Outlives : List Version → List Version → Type 0
Outlives ws vs = (old : Version) × Has vs old × IsOutlived ws old

outlived_first : (x : Version) (xs ws : List Version) → ((old : Version) → Has xs old → Stays ws old) → (o : Option (List ℕ)) → x.value ≡ o → Later ws x ⊎ IsLast ws x → Outlives ws (x ∷ xs) ⊎ ((old : Version) → Has (x ∷ xs) old → Stays ws old)
outlived_first x xs ws stay None is last = inl (x, Has-head x xs, inl is)
outlived_first x xs ws stay (Some value) is (inl later) = inl (x, Has-head x xs, inr later)
outlived_first x xs ws stay (Some value) is (inr last) = inr (λ old h. elim (Has-cases x xs old h) [
  | inl same ↦ subst (λ (y : Version). Stays ws y) (sym same) (subst (λ (o : Option (List ℕ)). IsSome o) (sym is) refl, last)
  | inr rest ↦ stay old rest
])

outlived_or_stay : (vs ws : List Version) → Outlives ws vs ⊎ ((old : Version) → Has vs old → Stays ws old)
outlived_or_stay [] ws = inr (λ old h. absurd (Has-nil old h))
outlived_or_stay (x ∷ xs) ws = elim (outlived_or_stay xs ws) [
  | inl found ↦ inl (found.0, Has-tail x xs found.0 found.1, found.2)
  | inr stay ↦ outlived_first x xs ws stay x.value refl (later_or_last ws x)
]

-- where fewer versions go on from a stamp than the leaf has, one of them was outlived
pub outlived_of : (leaf front newer : List Version) (v : Version) (at : ℕ) → leaf ≡ front ++ v ∷ [] → v.stamp ≡ at → IsAbove front at → IsRising leaf → IsFrom leaf at newer → IsRising newer → (length newer ≡ length leaf → ⊥) → HasOutlived front v
outlived_of leaf front newer v at is stamp above rising from rising_newer fewer = elim (outlived_or_stay front (front ++ v ∷ [])) [
  | inl found ↦ found
  | inr stay ↦ absurd (fewer (ap length (rising_one newer leaf rising_newer rising from.is_in (λ x h. goes_on stay x h))))
]
  where
    goes_on : ((old : Version) → Has front old → Stays (front ++ v ∷ []) old) → (x : Version) → Has leaf x → Has newer x
    goes_on stay x h = elim (Has-push_cases front v x (subst (λ (l : List Version). Has l x) is h)) [
      | inl old ↦ (let early : x.stamp < at = above.above x old in from.spanning x early
          (record { has = h; of_key = refl; not_after = omega (arith, early); greatest = λ w hw e le. (stay x old).1 w (subst (λ (l : List Version). Has l w) is hw) e }) (stay x old).0)
      | inr new ↦ (let s : x.stamp ≡ v.stamp = ap (λ (y : Version). y.stamp) new in from.each x h (omega (arith, s, stamp)))
    ]

-- where all of them go on, none was outlived
pub none_outlived : (front : List Version) (v : Version) → IsAbove front v.stamp → IsFrom (front ++ v ∷ []) v.stamp (front ++ v ∷ []) → HasOutlived front v → ⊥
none_outlived front v above from out =
    let old : Version = out.0 in
    let early : old.stamp < v.stamp = above.above old out.1 in
    let has : Has (front ++ v ∷ []) old = Has-push_old front v old out.1 in
    elim out.2 [
      | inl ended ↦ (let some = from.values old has early in false≢true (subst (λ (o : Option (List ℕ)). IsSome o) ended some))
      | inr later ↦ (let last = (from.copies old has early).greatest later.0 later.1 later.2 (not_later later.0 later.1) in let after = later.3 in omega (arith, last, after))
    ]
  where
    not_later : (w : Version) → Has (front ++ v ∷ []) w → w.stamp ≤ v.stamp
    not_later w h = elim (Has-push_cases front v w h) [
      | inl old ↦ (let early = above.above w old in omega (arith, early))
      | inr new ↦ (let s : w.stamp ≡ v.stamp = ap (λ (y : Version). y.stamp) new in omega (arith, s))
    ]

-- what is so of nothing or of a thing, where from the one follows the other
pub or_else : {S F G : Type 0} → (F → G) → S ⊎ F → S ⊎ G
or_else up (inl s) = inl s
or_else up (inr f) = inr (up f)
