-- The entries of a leaf one after another, in moments.
use Rattle.std.proofs.Common.{◌≡◌, ℕ, ◌^◌, ◌<◌, List, length, slice_get, Some, sym, ap, ◌∙◌, arith}
use Rattle.std.proofs.lemmas.List.{length-map}
use Rattle.route_model.specs.Units.{moments_in}
use Rattle.version_model.specs.Versions.{Version}
use Rattle.tsb_node.specs.Scaling.{scaled, scaled_version}
use Rattle.tsb_node.specs.Leaves.{LeafNode, BeginsAsLeaf, IsVersionOf}
use Rattle.tsb_node.specs.inner.Fields.{number_in}
use Rattle.tsb_node.specs.inner.Reading.{version_in, after, area}
use Rattle.tsb_node.proofs.Leaves.{leaf_represents}
use Rattle.tsb_node.proofs.SplittingLaws.{IsNext, next_version}
use Rattle.tsb_node.proofs.Parting.{version_next}
use Rattle.tsb_node.proofs.MomentLaws.{map_at, all_get, leaf_is}

-- the version at this place of the leaf, and the entry at the front that has it in the leaf's unit
pub record IsNextOf (leaf : LeafNode) (k n : ℕ) (rest : List ℕ) : Type 0 where
  pub as_written : LeafNode
  pub next : IsNext as_written n rest
  pub v : Version
  pub is : slice_get leaf.versions n ≡ Some v
  pub scaled_is : v ≡ scaled_version k next.v
  pub fits : scaled k (version_in rest).stamp < 256 ^ 16
  pub read : scaled_version k (version_in rest) ≡ v
  pub valid : IsVersionOf leaf.bounds v

pub leaf_count : (leaf : LeafNode) (octets : List ℕ) → BeginsAsLeaf leaf octets → number_in 2 4 octets ≡ length leaf.versions
leaf_count leaf octets is =
    (leaf_represents is.as_written octets is.begins).count_is ∙ sym (length-map is.as_written.versions (scaled_version (moments_in is.moments.known.unit))) ∙ ap (λ (l : LeafNode). length l.versions) (sym is.moments.scaled_is)

pub next_in_moments : (leaf : LeafNode) (octets rest : List ℕ) (n k : ℕ) → (is : BeginsAsLeaf leaf octets) → k ≡ moments_in is.moments.known.unit → n < length leaf.versions → rest ≡ after n (area octets) → IsNextOf leaf k n rest
next_in_moments leaf octets rest n k is same lt at =
    let w = is.as_written in
    let scaled_is = leaf_is leaf octets k is same in
    let short : n < length w.versions = omega (arith, lt, ap (λ (l : LeafNode). length l.versions) scaled_is, length-map w.versions (scaled_version k)) in
    let next = next_version w octets rest n is.begins short at in
    let v : Version = scaled_version k next.v in
    let there : slice_get leaf.versions n ≡ Some v = ap (λ (l : LeafNode). slice_get l.versions n) scaled_is ∙ map_at (scaled_version k) w.versions n next.v next.is in
    let valid : IsVersionOf leaf.bounds v = all_get (IsVersionOf leaf.bounds) leaf.versions n v is.valid.each there in
    let read : scaled_version k (version_in rest) ≡ v = ap (scaled_version k) (version_next w n rest next) in
    record {
      as_written = w;
      next = next;
      v = v;
      is = there;
      scaled_is = λ i. v;
      fits = omega (arith, valid.stamp, ap (λ (x : Version). x.stamp) read);
      read = read;
      valid = valid;
    }
