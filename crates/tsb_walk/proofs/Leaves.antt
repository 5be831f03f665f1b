-- What looks answer of a leaf is what they answer of all versions.
use Rattle.std.proofs.Common.{◌≡◌, ℕ, ◌<◌, ◌≤◌, List, Option, Some, None, sym, ap, subst, arith, filter}
use Rattle.version_model.specs.Versions.{Version, Found, Answers, AsOf, IsRising}
use Rattle.version_model.specs.Ranges.{Range, IsPoint, end_or}
use Rattle.version_model.specs.LeafVersions.{LeafRepresents}
use Rattle.version_model.specs.Looks.{NoneWithin, IsLive, IsLeastLive, is_of, IsPart}
use Rattle.version_model.proofs.api.Shown.{answers_shown}
use Rattle.version_model.proofs.api.LooksShown.{none_shown, reported_shown}
use Rattle.version_model.proofs.api.AsOfs.{AsOf-one}
use Rattle.tsb_node.specs.Leaves.{LeafNode, BeginsAsLeaf}

module _ (all : List Version) (r : Range) (leaf : List Version) (high from s : ℕ) (shows : LeafRepresents all r leaf) (is : r.high ≡ high) (point : IsPoint r from s) where
  pub none_past : NoneWithin leaf s from high → (from < high) × NoneWithin all s from high
  none_past none = (omega (arith, is, point.high), none_shown all r leaf shows s from high point.low (omega (arith, is)) point.start point.end none)

  -- the least key that has a value isn't below the high one
  pub none_high : (key : ℕ) → IsLeastLive leaf s from (Some key) → high ≤ key → (from < high) × NoneWithin all s from high
  none_high key least above = none_past (λ k low below. least.2 k low (omega (arith, above, below)))

  pub none_left : IsLeastLive leaf s from None → (from < high) × NoneWithin all s from high
  none_left least = none_past (λ k low below. least k low)

  pub found_here : (key : ℕ) (found : Found) → IsLeastLive leaf s from (Some key) → key < high → Answers leaf key s (Some found) → (from ≤ key) × Answers all key s (Some found) × NoneWithin all s from key
  found_here key found least below answers = (
    least.0,
    answers_shown all r leaf shows key s (Some found) (record { low = omega (arith, least.0, point.low); high = omega (arith, is, below) }) point.start point.end answers,
    none_shown all r leaf shows s from key point.low (omega (arith, is, below)) point.start point.end least.2,
  )

-- a key that has a value hasn't none
pub live_dead : (leaf : List Version) (key s : ℕ) → IsLive leaf s key → Answers leaf key s None → ⊥
live_dead leaf key s live none = absurd (let e : Some live.0.value ≡ None = none _ live.1 in cc)

-- of a leaf one version holds for a key at a stamp, so its value is one
pub one_holds : (leaf : LeafNode) (octets : List ℕ) → BeginsAsLeaf leaf octets → (key s : ℕ) (u v : Version) → AsOf leaf.versions key s u → AsOf leaf.versions key s v → v.value ≡ u.value
one_holds leaf octets begins key s u v a b = ap (λ (x : Version). x.value) (AsOf-one leaf.versions key s v u begins.valid.rising b a)

-- the versions of a key that a leaf has are all that there are
pub part_reported : (all : List Version) (r : Range) (leaf : LeafNode) (octets : List ℕ) (key from : ℕ) (reported : Option ℕ) (part : List Version) → BeginsAsLeaf leaf octets → LeafRepresents all r leaf.versions → IsRising all → r.end ≡ end_or reported → IsPoint r key from
    → part ≡ filter (is_of key from (end_or reported)) leaf.versions → IsPart all key from part reported
part_reported all r leaf octets key from reported part begins shows rising end point is =
    subst (λ (vs : List Version). IsPart all key from vs reported) (sym is)
    (reported_shown all r leaf.versions shows key from reported point rising begins.valid.rising (omega (arith, end, point.end)) (omega (arith, end)))
