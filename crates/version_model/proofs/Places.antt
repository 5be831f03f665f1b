-- The last of the first n versions that counts for a key at a stamp.
use Rattle.std.proofs.Common.{◌≡◌, ℕ, ◌+◌, ◌<◌, ◌≤◌, inl, inr, List, length, Option, Some, None, slice_get, sym, ◌∙◌, subst, arith}
use Rattle.std.specs.Option.{MatchOption}
use Rattle.std.proofs.lemmas.Bool.{cases_lt, cases_order}
use Rattle.std.proofs.lemmas.Option.{slice_get_within, same_Some}
use Rattle.version_model.specs.Versions.{Version, AsOf, IsRising}

-- the version is of the key, and not after the stamp
pub record Counts (key s : ℕ) (v : Version) : Type 0 where
  pub of_key : v.key ≡ key
  pub not_after : v.stamp ≤ s

pub record NoneFrom (vs : List Version) (key s low high : ℕ) : Type 0 where
  pub none : (k : ℕ) (v : Version) → low ≤ k → k < high → slice_get vs k ≡ Some v → Counts key s v → ⊥

-- of the first n versions, the one at the place is the last that counts
abbrev pub LastBelow : List Version → ℕ → ℕ → ℕ → Option ℕ → Type 0
LastBelow vs key s n None = NoneFrom vs key s 0 n
LastBelow vs key s n (Some b) = (b < n) × ((v : Version) × (slice_get vs b ≡ Some v) × Counts key s v) × NoneFrom vs key s (b + 1) n

pub NoneFrom-more : (vs : List Version) (key s low n : ℕ) (v : Version) → NoneFrom vs key s low n → slice_get vs n ≡ Some v → (Counts key s v → ⊥) → NoneFrom vs key s low (n + 1)
NoneFrom-more vs key s low n v h is never = record {
  none = λ k w above below at counts. elim (cases_lt k n) [
    | inl lt ↦ h.none k w above lt at counts
    | inr ge ↦ never (subst (Counts key s) (same_Some w v (sym at ∙ subst (λ i. slice_get vs i ≡ Some v) (let e : n ≡ k = omega arith in e) is)) counts)
  ];
}

pub LastBelow-no : (vs : List Version) (key s n : ℕ) (v : Version) (best : Option ℕ) → LastBelow vs key s n best → slice_get vs n ≡ Some v → (Counts key s v → ⊥) → LastBelow vs key s (n + 1) best
LastBelow-no vs key s n v None h is never = NoneFrom-more vs key s 0 n v h is never
LastBelow-no vs key s n v (Some b) h is never = (omega (arith, h.0), h.1, NoneFrom-more vs key s (b + 1) n v h.2 is never)

pub LastBelow-yes : (vs : List Version) (key s n : ℕ) (v : Version) → slice_get vs n ≡ Some v → Counts key s v → LastBelow vs key s (n + 1) (Some n)
LastBelow-yes vs key s n v is counts = (omega arith, (v, is, counts), record { none = λ k w above below at c. absurd (omega arith) })

-- of rising versions the last one that counts holds
pub holds_last : (vs : List Version) (key s b : ℕ) (v : Version) → IsRising vs → slice_get vs b ≡ Some v → Counts key s v → NoneFrom vs key s (b + 1) (length vs) → AsOf vs key s v
holds_last vs key s b v rising is counts none = record {
  has = record { place = b; is = is };
  of_key = counts.of_key;
  not_after = counts.not_after;
  greatest = λ w has same upto. elim (cases_order has.place b) [
    | inl e ↦ subst (λ (x : Version). w.stamp ≤ x.stamp) (same_Some w v (sym has.is ∙ subst (λ i. slice_get vs i ≡ Some v) (sym e) is)) (omega arith)
    | inr other ↦ elim other [
      | inl lt ↦ (let h : w.stamp < v.stamp = rising.rises has.place b w v lt has.is is in omega arith)
      | inr gt ↦ absurd (none.none has.place w (omega arith) (slice_get_within vs has.place w has.is) has.is (record { of_key = same; not_after = upto }))
    ]
  ];
}

pub LastBelow-end : (vs : List Version) (key s : ℕ) (best : Option ℕ) → IsRising vs → LastBelow vs key s (length vs) best →
    MatchOption best ((v : Version) → AsOf vs key s v → ⊥) (λ i. (v : Version) × (slice_get vs i ≡ Some v) × AsOf vs key s v)
LastBelow-end vs key s None rising h = λ v holds. h.none holds.has.place v (omega arith) (slice_get_within vs holds.has.place v holds.has.is) holds.has.is (record { of_key = holds.of_key; not_after = holds.not_after })
LastBelow-end vs key s (Some b) rising h = (h.1.0, h.1.1, holds_last vs key s b h.1.0 rising h.1.1 h.1.2 h.2)
