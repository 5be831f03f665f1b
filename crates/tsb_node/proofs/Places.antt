-- The last of the first n versions that counts for a key at a stamp.
use Rattle.std.proofs.Common.{◌≡◌, ℕ, ◌+◌, ◌<◌, ◌≤◌, inl, inr, List, length, Some, slice_get, sym, ◌∙◌, subst, arith}
use Rattle.std.proofs.lemmas.Bool.{cases_lt, cases_order}
use Rattle.std.proofs.lemmas.Option.{slice_get_within, same_Some}
use Rattle.version_model.specs.Versions.{Version, AsOf, IsRising}
use Rattle.tsb_node.specs.inner.Scanning.{Counts, NoneFrom}

pub NoneFrom-more : (vs : List Version) (key s low n : ℕ) (v : Version) → NoneFrom vs key s low n → slice_get vs n ≡ Some v → (Counts key s v → ⊥) → NoneFrom vs key s low (n + 1)
NoneFrom-more vs key s low n v h is never = record {
  none = λ k w above below at counts. elim (cases_lt k n) [
    | inl lt ↦ h.none k w above lt at counts
    | inr ge ↦ never (subst (Counts key s) (same_Some w v (sym at ∙ subst (λ i. slice_get vs i ≡ Some v) (let e : n ≡ k = omega arith in e) is)) counts)
  ];
}

-- of rising versions the last one that counts holds
pub holds_last : (vs : List Version) (key s b : ℕ) (v : Version) → IsRising vs → slice_get vs b ≡ Some v → Counts key s v → NoneFrom vs key s (b + 1) (length vs) → AsOf vs key s v
holds_last vs key s b v rising is counts none = record {
  has = record { place = b; is = is };
  of_key = counts.of_key;
  not_after = counts.not_after;
  greatest = λ w has same upto. elim (cases_order has.place b) [
    | inl e ↦ subst (λ (x : Version). w.stamp ≤ x.stamp) (same_Some w v (sym has.is ∙ subst (λ i. slice_get vs i ≡ Some v) (sym e) is)) (omega arith)
    | inr other ↦ elim other [
      | inl lt ↦ (let h : w.stamp < v.stamp = rising.rises has.place b w v lt has.is is in omega arith)
      | inr gt ↦ absurd (none.none has.place w (omega arith) (slice_get_within vs has.place w has.is) has.is (record { of_key = same; not_after = upto }))
    ]
  ];
}
