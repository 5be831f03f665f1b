-- A leaf that is read, in moments.
use Rattle.std.proofs.Common.{◌≡◌, ◌∙◌, ℕ, List, Option, Some, None, slice_index, refl, sym, ap, subst}
use Rattle.std.specs.Option.{option_map, IfSome, IfNone, MatchOption}
use Rattle.route_model.specs.Units.{moments_in}
use Rattle.version_model.specs.declared.bounds.Bounds.{Bounds}
use Rattle.tsb_node.specs.Scaling.{scaled, IsKnownUnit}
use Rattle.tsb_node.specs.Leaves.{LeafNode, IsLeaf, IsWrittenLeafPage, IsWrittenLeafBlock, IsLeafPage, IsLeafBlock, scaled_leaf}
use Rattle.tsb_node.proofs.Leaves.{begins_page, begins_block}
use Rattle.tsb_node.proofs.OneNode.{leaf_written_one}
use Rattle.tsb_node.proofs.MomentLaws.{leaf_unit, known_at, same_moments, some_mapped}

pub found_leaf : (o : Option Bounds) (leaf : LeafNode) (P : LeafNode → Type 0) → (IsLeaf leaf → P leaf) → MatchOption o (IsLeaf leaf → ⊥) (λ b. (b ≡ leaf.bounds) × IsLeaf leaf) → IfSome o (λ b. (l : LeafNode) × P l × (l.bounds ≡ b))
found_leaf None leaf P f is = tt
found_leaf (Some b) leaf P f is = (leaf, f is.1, sym is.0)

pub none_leaf : (o : Option Bounds) (leaf : LeafNode) (P : LeafNode → Type 0) → ((l : LeafNode) → P l → IsLeaf leaf) → MatchOption o (IsLeaf leaf → ⊥) (λ b. (b ≡ leaf.bounds) × IsLeaf leaf) → IfNone o ((l : LeafNode) → P l → ⊥)
none_leaf None leaf P f is = λ l p. is (f l p)
none_leaf (Some b) leaf P f is = tt

pub page_in_moments : (w : LeafNode) (page : List ℕ) (known : IsKnownUnit (slice_index page 1)) → IsWrittenLeafPage w page → IsLeaf (scaled_leaf (moments_in known.unit) w) → IsLeafPage (scaled_leaf (moments_in known.unit) w) page
page_in_moments w page known is valid = record {
  as_written = w;
  page = is;
  moments = record { known = known_at (slice_index page 1) is.unit (leaf_unit w page (begins_page w page is)) known; scaled_is = refl };
  valid = valid;
  current = ap (option_map (scaled (moments_in known.unit))) is.page.current;
}

-- each leaf of the page is this one
pub page_is : (w leaf : LeafNode) (page : List ℕ) (known : IsKnownUnit (slice_index page 1)) → IsWrittenLeafPage w page → IsLeafPage leaf page → IsLeaf (scaled_leaf (moments_in known.unit) w)
page_is w leaf page known is p =
    let one : p.as_written ≡ w = leaf_written_one p.as_written w page (begins_page p.as_written page p.page) (begins_page w page is) in
    let unit = same_moments p.page.unit (slice_index page 1) (sym (leaf_unit p.as_written page (begins_page p.as_written page p.page))) p.moments.known known in
    subst IsLeaf (p.moments.scaled_is ∙ ap (λ (n : ℕ). scaled_leaf n p.as_written) unit ∙ ap (scaled_leaf (moments_in known.unit)) one) p.valid

pub block_in_moments : (w : LeafNode) (block : List ℕ) (known : IsKnownUnit (slice_index block 1)) → IsWrittenLeafBlock w block → IsLeaf (scaled_leaf (moments_in known.unit) w) → IsLeafBlock (scaled_leaf (moments_in known.unit) w) block
block_in_moments w block known is valid = record {
  as_written = w;
  block = is;
  moments = record { known = known_at (slice_index block 1) is.unit (leaf_unit w block (begins_block w block is)) known; scaled_is = refl };
  valid = valid;
  ended = some_mapped (scaled (moments_in known.unit)) w.bounds.end is.block.ended;
}

pub block_is : (w leaf : LeafNode) (block : List ℕ) (known : IsKnownUnit (slice_index block 1)) → IsWrittenLeafBlock w block → IsLeafBlock leaf block → IsLeaf (scaled_leaf (moments_in known.unit) w)
block_is w leaf block known is p =
    let one : p.as_written ≡ w = leaf_written_one p.as_written w block (begins_block p.as_written block p.block) (begins_block w block is) in
    let unit = same_moments p.block.unit (slice_index block 1) (sym (leaf_unit p.as_written block (begins_block p.as_written block p.block))) p.moments.known known in
    subst IsLeaf (p.moments.scaled_is ∙ ap (λ (n : ℕ). scaled_leaf n p.as_written) unit ∙ ap (scaled_leaf (moments_in known.unit)) one) p.valid
