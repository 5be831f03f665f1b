-- What a loop has kept of the first n versions.
use Rattle.std.proofs.Common.{◌≡◌, ℕ, ◌+◌, ◌<◌, ◌≤◌, ◌⊎◌, inl, inr, List, [], ◌∷◌, ◌++◌, length, Some, IsSome, slice_get, sym, ◌∙◌, subst, arith}
use Rattle.std.proofs.lemmas.Bool.{cases_lt}
use Rattle.std.proofs.lemmas.Option.{slice_get_within, same_Some}
use Rattle.version_model.specs.Versions.{Version, Has, AsOf, IsRising, IsAbove}
use Rattle.version_model.proofs.api.Pushed.{no_at_nil, Has-nil, Has-push_cases, Has-push_old, Has-push_new, IsRising-push}
use Rattle.version_model.specs.LeafVersions.{IsFrom, IsBelow, IsFromKey}

pub record Keeps (P Q : Version → Type 0) (vs : List Version) (n : ℕ) (kept : List Version) : Type 0 where
  pub is_in : (v : Version) → Has kept v → (k : ℕ) × (k < n) × (slice_get vs k ≡ Some v)
  pub only : (v : Version) → Has kept v → P v
  pub each : (k : ℕ) (v : Version) → k < n → slice_get vs k ≡ Some v → Q v → Has kept v
  pub rising : IsRising kept

pub Keeps-none : (P Q : Version → Type 0) (vs : List Version) → Keeps P Q vs 0 []
Keeps-none P Q vs = record {
  is_in = λ v h. absurd (Has-nil v h);
  only = λ v h. absurd (Has-nil v h);
  each = λ k v lt. absurd (omega arith);
  rising = record { rises = λ i j v w lt at. absurd (no_at_nil i v at) };
}

module _ (P Q : Version → Type 0) (vs : List Version) (n : ℕ) (kept : List Version) (v : Version) (at : slice_get vs n ≡ Some v) (keeps : Keeps P Q vs n kept) where
  pub Keeps-no : (Q v → ⊥) → Keeps P Q vs (n + 1) kept
  Keeps-no never = record {
    is_in = λ w h. (let old = keeps.is_in w h in (old.0, omega (arith, old.1), old.2));
    only = keeps.only;
    each = λ k w lt is q. elim (cases_lt k n) [
      | inl below ↦ keeps.each k w below is q
      | inr here ↦ absurd (never (subst Q (same_Some w v (sym is ∙ subst (λ i. slice_get vs i ≡ Some v) (let e : n ≡ k = omega arith in e) at)) q))
    ];
    rising = keeps.rising;
  }

  above_kept : IsRising vs → IsAbove kept v.stamp
  above_kept rising = record { above = λ w h. (let old = keeps.is_in w h in rising.rises old.0 n w v old.1 old.2 at) }

  pub Keeps-yes : IsRising vs → P v → Keeps P Q vs (n + 1) (kept ++ v ∷ [])
  Keeps-yes rising p = record {
    is_in = λ w h. elim (Has-push_cases kept v w h) [
      | inl old ↦ (let o = keeps.is_in w old in (o.0, omega (arith, o.1), o.2))
      | inr new ↦ (n, omega arith, subst (λ x. slice_get vs n ≡ Some x) (sym new) at)
    ];
    only = λ w h. elim (Has-push_cases kept v w h) [
      | inl old ↦ keeps.only w old
      | inr new ↦ subst P (sym new) p
    ];
    each = λ k w lt is q. elim (cases_lt k n) [
      | inl below ↦ Has-push_old kept v w (keeps.each k w below is q)
      | inr here ↦ subst (Has (kept ++ v ∷ [])) (same_Some v w (sym at ∙ subst (λ i. slice_get vs i ≡ Some w) (let e : k ≡ n = omega arith in e) is)) (Has-push_new kept v)
    ];
    rising = IsRising-push kept v keeps.rising (above_kept rising);
  }

-- what a part from a stamp on may have and must have
abbrev pub MayStay : List Version → ℕ → Version → Type 0
MayStay vs at v = v.stamp < at → AsOf vs v.key at v × IsSome v.value

abbrev pub MustStay : List Version → ℕ → Version → Type 0
MustStay vs at v = (at ≤ v.stamp) ⊎ (AsOf vs v.key at v × IsSome v.value)

pub IsFrom-kept : (vs kept : List Version) (at : ℕ) → Keeps (MayStay vs at) (MustStay vs at) vs (length vs) kept → IsFrom vs at kept
IsFrom-kept vs kept at keeps = record {
  is_in = λ v h. (let old = keeps.is_in v h in record { place = old.0; is = old.2 });
  copies = λ v h before. (keeps.only v h before).0;
  values = λ v h before. (keeps.only v h before).1;
  each = λ v h late. keeps.each h.place v (slice_get_within vs h.place v h.is) h.is (inl late);
  spanning = λ v before holds some. keeps.each holds.has.place v (slice_get_within vs holds.has.place v holds.has.is) holds.has.is (inr (holds, some));
}

abbrev pub OfKeyBelow : ℕ → Version → Type 0
OfKeyBelow key v = v.key < key

abbrev pub OfKeyFrom : ℕ → Version → Type 0
OfKeyFrom key v = key ≤ v.key

pub IsBelow-kept : (vs kept : List Version) (key : ℕ) → Keeps (OfKeyBelow key) (OfKeyBelow key) vs (length vs) kept → IsBelow vs key kept
IsBelow-kept vs kept key keeps = record {
  is_in = λ v h. (let old = keeps.is_in v h in record { place = old.0; is = old.2 });
  only = keeps.only;
  each = λ v h below. keeps.each h.place v (slice_get_within vs h.place v h.is) h.is below;
}

pub IsFromKey-kept : (vs kept : List Version) (key : ℕ) → Keeps (OfKeyFrom key) (OfKeyFrom key) vs (length vs) kept → IsFromKey vs key kept
IsFromKey-kept vs kept key keeps = record {
  is_in = λ v h. (let old = keeps.is_in v h in record { place = old.0; is = old.2 });
  only = keeps.only;
  each = λ v h from. keeps.each h.place v (slice_get_within vs h.place v h.is) h.is from;
}
