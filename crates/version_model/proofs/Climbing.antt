-- A list rises where each version is before the next one.
use Rattle.std.proofs.Common.{◌≡◌, ℕ, suc, ◌<◌, inl, inr, List, [], ◌∷◌, Some, slice_get, refl, ap, arith}
use Rattle.version_model.specs.Versions.{Version, IsRising}
use Rattle.version_model.proofs.api.Pushed.{no_at_nil, Has-nil}
use Rattle.version_model.proofs.api.LooksShown.{Has-cases, above_head, rising_cons}

-- each version is before the next one
pub record Climbs (vs : List Version) : Type 0 where
  pub pair : (k : ℕ) (v w : Version) → slice_get vs k ≡ Some v → slice_get vs (suc k) ≡ Some w → v.stamp < w.stamp

climbs_tail : (v : Version) (vs : List Version) → Climbs (v ∷ vs) → Climbs vs
climbs_tail v vs h = record { pair = λ k. h.pair (suc k) }

pub climbs_rising : (vs : List Version) → Climbs vs → IsRising vs
climbs_rising [] h = record { rises = λ i j x y lt at. absurd (no_at_nil i x at) }
climbs_rising (v ∷ []) h = rising_cons v [] (climbs_rising [] (climbs_tail v [] h)) (λ x has. absurd (Has-nil x has))
climbs_rising (v ∷ w ∷ ws) h =
    let rest = climbs_rising (w ∷ ws) (climbs_tail v (w ∷ ws) h) in
    let next : v.stamp < w.stamp = h.pair 0 v w refl refl in
    rising_cons v (w ∷ ws) rest (λ x has. elim (Has-cases w ws x has) [
      | inl is ↦ omega (arith, ap (λ (y : Version). y.stamp) is)
      | inr later ↦ omega (arith, above_head w ws x rest later)
    ])
