-- Where a leaf that has one version of each key is split by key, both sides fit.
use Rattle.std.proofs.Common.{ℕ, ◌+◌, ◌-◌, ◌<◌, ◌≤◌, inl, inr, List, Some, None, arith}
use Rattle.version_model.specs.Versions.{Version, Has}
use Rattle.version_model.specs.Sizes.{octets, octets_below, IsSplitPoint, IsSingle, AreSmall}
use Rattle.version_model.proofs.api.Sizing.{below_some, below_all, below_bounded}

module _ (vs : List Version) (room most least : ℕ) (single : IsSingle vs) (small : AreSmall vs most) (some : 0 < least) (low : least + most ≤ room + 1) where
  -- a leaf with more octets than the room has such a key, where its keys have an end
  pub point_is_there : (high : ℕ) → ((v : Version) → Has vs v → v.key < high) → room < octets vs → IsSplitPoint vs least None → ⊥
  point_is_there high under over few = omega (arith, below_bounded vs least most high single small some (few high), below_all high vs under)

  module _ (key : ℕ) (full : octets vs ≤ room + least) (is : IsSplitPoint vs least (Some key)) where
    pub left_fits : octets_below key vs ≤ room
    left_fits = omega (arith, below_bounded vs least most key single small some is.1)

    pub right_fits : octets vs - octets_below key vs ≤ room
    right_fits = omega (arith, is.0)

-- neither side is empty: there is a version below the key, as there is one of the key
pub left_some : (vs : List Version) (least key : ℕ) → 0 < least → IsSplitPoint vs least (Some key) → (v : Version) × Has vs v × (v.key < key)
left_some vs least key some is = elim (below_some key vs) [
  | inl none ↦ absurd (omega (arith, none, is.0))
  | inr there ↦ there
]
