-- What is counted where the places stand counts as the tree's own counts do.
use Rattle.std.proofs.Common.{◌≡◌, ℕ, zero, suc, ◌+◌, ◌<◌, ◌≤◌, ◌⊎◌, List, [], ◌∷◌, Option, Some, slice_get, length, refl, sym, ◌∙◌, ap, subst, arith}
use Rattle.std.proofs.lemmas.Option.{same_Some, none-some}
use Rattle.std.specs.List.{AllByRecursion}
use Rattle.version_model.specs.declared.part.Part.{Part}
use Rattle.version_model.specs.declared.part.Place.{Place}
use Rattle.version_model.specs.Versions.{Version, IsRising}
use Rattle.version_model.specs.Ranges.{Range, range_of}
use Rattle.version_model.specs.Blocks.{BlockNode, OldLeaf, OldColumn, IsPartOf, PartRepresents, PlaceRepresents, range_at}
use Rattle.version_model.specs.Counts.{PartCounts, leaf_counts, parts_count, count_in, sum_of}
use Rattle.version_model.proofs.api.Representing.{column_represents_all}
use Rattle.tsb_node.specs.Views.{BlockRepresents}
use Rattle.tsb_node.proofs.api.Blocks.{one_decoded}
use Rattle.tsb_walk.specs.Knowing.{IsKnown, AreKnown}
use Rattle.tsb_walk.specs.Ways.{IsLeafFor, IsColumnFor}
use Rattle.tsb_walk.proofs.Blocks.{leaf_decoded}
use Rattle.tsb_walk.proofs.Walking.{node_of}
use Rattle.tsb_check.specs.Counted.{AreCounted, none_counted, leaf_counted, column_counted, places_of}
use Rattle.tsb_check.proofs.Placed.{length-places, placed_at, places_are}

-- the versions of a leaf rise
pub leaf_rises : (place : Place) (octets : List ℕ) (versions : List Version) → IsLeafFor place octets versions → IsRising versions
leaf_rises place octets versions leaf =
    let decoded = leaf_decoded octets (OldLeaf leaf.wide versions) leaf.represents_node leaf.wide versions refl in
    subst IsRising decoded.same decoded.block.valid.rising

module _ (known : ℕ → Option (List ℕ)) (count : ℕ) (blocks : ℕ → Option BlockNode) (are : AreKnown known count blocks) (all : List Version) where
  -- what a known block represents is what stands there
  pub node_is : (place : Place) → PlaceRepresents blocks all place → (octets : List ℕ) (node : BlockNode) → IsKnown known count place.part.block octets → BlockRepresents octets node → blocks place.part.block ≡ Some node
  node_is place represents_all octets node is represents_node =
      let other = node_of blocks all (range_of place.bounds) place.part represents_all in
      let decoded = are.represents_node place.part.block other.0 other.1 in
      let same : decoded.0 ≡ octets = same_Some decoded.0 octets (sym decoded.1.at ∙ is.at) in
      other.1 ∙ ap Some (one_decoded octets other.0 node (subst (λ (o : List ℕ). BlockRepresents o other.0) same decoded.2) represents_node)

  -- the parts of a column that stands stand
  pub inner_represent : (place : Place) → PlaceRepresents blocks all place → (octets : List ℕ) (parts : List Part) → IsKnown known count place.part.block octets → IsColumnFor place octets parts
      → AllByRecursion (PlaceRepresents blocks all) (places_of place.bounds parts)
  inner_represent place represents_all octets parts is column =
      let cs = column_represents_all blocks all (range_of place.bounds) place.part column.wide parts (node_is place represents_all octets (OldColumn column.wide parts) is column.represents_node) represents_all in
      places_are (PartRepresents blocks all) place.bounds parts (λ i part at. cs.stand (range_at (range_of place.bounds) parts i part) part (record { place = i; at = at; range = refl }))

  pub record PartsCount (places : List Place) (n : ℕ) : Type 0 where
    pub ns : List ℕ
    pub same : length ns ≡ length places
    pub sum : sum_of ns ≡ n
    pub each : (i : ℕ) (p : Place) (m : ℕ) → slice_get places i ≡ Some p → slice_get ns i ≡ Some m → PartCounts blocks (range_of p.bounds) p.part m

  one_more : (place : Place) (rest : List Place) (c m : ℕ) → PartCounts blocks (range_of place.bounds) place.part c → PartsCount rest m → PartsCount (place ∷ rest) (c + m)
  one_more place rest c m here rests = record {
    ns = c ∷ rests.ns;
    same = omega (arith, rests.same);
    sum = omega (arith, rests.sum);
    each = each;
  }
    where
      each : (i : ℕ) (p : Place) (k : ℕ) → slice_get (place ∷ rest) i ≡ Some p → slice_get (c ∷ rests.ns) i ≡ Some k → PartCounts blocks (range_of p.bounds) p.part k
      each zero p k at_place at_n = subst (λ (x : ℕ). PartCounts blocks (range_of p.bounds) p.part x) (same_Some c k at_n) (subst (λ (q : Place). PartCounts blocks (range_of q.bounds) q.part c) (same_Some place p at_place) here)
      each (suc i) p k at_place at_n = rests.each i p k at_place at_n

  pub parts_counted : (places : List Place) (n : ℕ) → AreCounted known count places n → AllByRecursion (PlaceRepresents blocks all) places → PartsCount places n
  parts_counted _ _ none_counted stand = record { ns = []; same = refl; sum = refl; each = λ i p m at_place at_n. absurd (none-some p at_place) }
  parts_counted _ _ (leaf_counted place rest octets versions m is leaf rests) stand =
      let at = node_is place stand.0 octets (OldLeaf leaf.wide versions) is leaf.represents_node in
      one_more place rest (count_in versions (range_of place.bounds)) m
      (leaf_counts (range_of place.bounds) place.part leaf.wide versions leaf.kind at leaf.wider (leaf_rises place octets versions leaf))
      (parts_counted rest m rests stand.1)
  parts_counted _ _ (column_counted place rest octets parts n m is column lower inner rests) stand =
      let at = node_is place stand.0 octets (OldColumn column.wide parts) is column.represents_node in
      let cs = column_represents_all blocks all (range_of place.bounds) place.part column.wide parts at stand.0 in
      let counts = parts_counted (places_of place.bounds parts) n inner (inner_represent place stand.0 octets parts is column) in
      let r = range_of place.bounds in
      let here : PartCounts blocks r place.part (sum_of counts.ns) =
      parts_count r place.part column.wide parts counts.ns column.kind at column.wider cs.are_parts (counts.same ∙ length-places place.bounds parts)
      (λ i part k at_part at_n. (let p = placed_at place.bounds parts i part at_part in
      subst (λ (s : Range). PartCounts blocks s part k) p.range (subst (λ (q : Part). PartCounts blocks (range_of p.place.bounds) q k) p.part_is (counts.each i p.place k p.at at_n)))) in
      one_more place rest n m (subst (λ (x : ℕ). PartCounts blocks r place.part x) counts.sum here) (parts_counted rest m rests stand.1)
