-- Heads that pages encode, whatever unit they are in.
use Rattle.std.proofs.Common.{◌≡◌, ◌≤◌, ◌*◌, ℕ, ◌⊎◌, inl, inr, List, [], ◌∷◌, length, map, refl, sym, ap, subst, ◌∙◌, suc, arith}
use Rattle.std.specs.List.{AllByRecursion}
use Rattle.route_model.specs.Units.{moments_in}
use Rattle.archive_head.specs.declared.lane.Lane.{Lane}
use Rattle.archive_head.specs.Head.{Contents, EncodesHead, IsHead, IsLane, IsOlderHead, IsOlderLane, head_octets, in_moments, lane_in_moments}

lanes_valid : (k : ℕ) (ls : List Lane) → AllByRecursion IsLane ls → AllByRecursion (IsOlderLane k) ls → AllByRecursion IsLane (map (lane_in_moments k) ls)
lanes_valid k [] valid older = tt
lanes_valid k (l ∷ ls) valid older =
    (record { offered = valid.0.offered; admitted = valid.0.admitted; mark = older.0.mark; first = valid.0.first; used = valid.0.used; since = valid.0.admitted }, lanes_valid k ls valid.1 older.1)

length-map : {X Y : Type 0} (f : X → Y) (xs : List X) → length (map f xs) ≡ length xs
length-map f [] = refl
length-map f (x ∷ xs) = ap suc (length-map f xs)

-- a head that is older is a head in moments
pub moments_valid : (k : ℕ) (h : Contents) → IsOlderHead k h → IsHead (in_moments k h)
moments_valid k h o = record {
  applied = o.valid.applied;
  last = o.last;
  begun = o.valid.begun;
  fresh = o.valid.fresh;
  block = o.valid.block;
  root = o.valid.root;
  few = (let few = o.valid.few in let same = length-map (lane_in_moments k) h.lanes in omega (arith, few, same));
  lanes = lanes_valid k h.lanes o.valid.lanes o.lanes;
}

-- what a page encodes is a head
pub encodes_valid : (head : Contents) (octets : List ℕ) → EncodesHead head octets → IsHead head
encodes_valid head octets (inl e) = e.valid
encodes_valid head octets (inr o) = subst IsHead (sym o.moments) (moments_valid (moments_in o.unit) o.stored o.older)

-- a page that is written encodes its head
pub encodes_written : (head : Contents) (octets : List ℕ) → IsHead head → octets ≡ head_octets head → EncodesHead head octets
encodes_written head octets valid is = inl (record { valid = valid; encoded = is })
