-- What a reader has where a walk has come to a leaf.
use Rattle.std.proofs.Common.{◌≡◌, ℕ, List, Option, sym, ◌∙◌, subst}
use Rattle.disk_models.specs.declared.once.OnceDisk.{Ghosts}
use Rattle.once_store.specs.declared.reader.ShelfReader.{ShelfReader}
use Rattle.once_store.specs.Readers.{IsCached}
use Rattle.version_model.specs.declared.part.Place.{Place}
use Rattle.version_model.specs.Versions.{Version}
use Rattle.version_model.specs.Ranges.{range_of}
use Rattle.version_model.specs.LeafVersions.{LeafRepresents}
use Rattle.tsb_node.specs.Leaves.{LeafNode, BeginsAsLeaf}
use Rattle.tsb_walk.specs.BlockWays.{IsBadBlock}
use Rattle.tsb_walk.specs.inner.Arriving.{Arrives, HasLeaf}
use Rattle.tsb_walk.proofs.Blocks.{fit_leaf, leaf_of}

-- the octets begin as a leaf that shows the versions in the place's range
pub record LeafRepresented (all : List Version) (place : Place) (octets : List ℕ) : Type 0 where
  pub leaf : LeafNode
  pub begins : BeginsAsLeaf leaf octets
  pub shows : LeafRepresents all (range_of place.bounds) leaf.versions

module _ {O Pen Seen : Type 0} (device : Ghosts O Pen Seen) (reader : ShelfReader O Pen Seen device) where
  pub leaf_kept : (all : List Version) (place : Place) → HasLeaf device reader all place → (block octets : List ℕ) → IsCached reader place.part.block block → octets ≡ block → LeafRepresented all place octets
  leaf_kept all place has block octets kept is =
      let of = leaf_of place has.octets has.versions has.leaf in
      let same : has.octets ≡ octets = sym (is ∙ has.only block kept) in
      record { leaf = of.leaf; begins = subst (BeginsAsLeaf of.leaf) same of.of.begins; shows = subst (LeafRepresents all (range_of place.bounds)) (sym of.same) has.shows }

  -- a leaf to which the way comes, and which can't be read, isn't what its place asks
  pub bad_leaf_block : (known : ℕ → Option (List ℕ)) (count key stamp : ℕ) (first last : Place) → Arrives device reader known count key stamp first last → (block octets : List ℕ) → IsCached reader last.part.block block → octets ≡ block
      → ((leaf : LeafNode) → BeginsAsLeaf leaf octets → ⊥) → (number : ℕ) → last.part.block ≡ number → IsBadBlock known count key stamp first number
  bad_leaf_block known count key stamp first last there block octets kept is never number same = record {
    last = last;
    way = there.way;
    is = same;
    bad = λ real known_is fit. (
        let leaf = fit_leaf last real key stamp there.kind fit in
        let of = leaf_of last real leaf.0 leaf.1 in
        let e : real ≡ octets = sym (is ∙ there.only real known_is block kept) in
        never of.leaf (subst (BeginsAsLeaf of.leaf) e of.of.begins));
  }
