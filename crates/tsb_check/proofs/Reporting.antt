-- What one block holds for its place.
use Rattle.std.proofs.Common.{◌≡◌, ℕ, List, IsSome, inl, inr, refl, sym, ◌∙◌, subst}
use Rattle.version_model.specs.declared.part.PartKind.TheVariants.{LeafBlock, ColumnBlock}
use Rattle.version_model.specs.declared.part.Place.{Place}
use Rattle.version_model.specs.Ranges.{Range, range_of}
use Rattle.version_model.specs.Blocks.{OldLeaf, OldColumn, IsWider}
use Rattle.once_store.specs.Digests.{IsWhole}
use Rattle.tsb_node.specs.Leaves.{LeafNode, IsLeafBlock}
use Rattle.tsb_node.specs.Columns.{ColumnInBlock, IsColumnBlock}
use Rattle.tsb_node.specs.Views.{represents_old_leaf, represents_old_column}
use Rattle.tsb_node.proofs.api.Blocks.{leaf_begins, column_begins, leaf_whole, column_whole, one_leaf, one_column}
use Rattle.tsb_walk.specs.Ways.{IsLeafFor, IsColumnFor}
use Rattle.tsb_walk.proofs.Blocks.{leaf_decoded, column_decoded}
use Rattle.tsb_check.specs.Counted.{IsSoundFor, AreLower}

-- what is asked for carries its digest
pub sound_whole : (place : Place) (octets : List ℕ) → IsSoundFor place octets → IsWhole octets
sound_whole place octets (inl leaf) = (let decoded = leaf_decoded octets (OldLeaf leaf.1.wide leaf.0) leaf.1.represents_node leaf.1.wide leaf.0 refl in leaf_whole decoded.leaf octets decoded.block)
sound_whole place octets (inr column) = (let decoded = column_decoded octets (OldColumn column.1.wide column.0) column.1.represents_node column.1.wide column.0 refl in column_whole decoded.column octets decoded.block)

module _ (place : Place) (octets : List ℕ) where
  -- ---- leaves

  pub leaf_reported : (leaf : LeafNode) → place.part.kind ≡ LeafBlock → IsLeafBlock leaf octets → IsWider (range_of leaf.bounds) (range_of place.bounds) → IsLeafFor place octets leaf.versions
  leaf_reported leaf kind is wider = record { wide = range_of leaf.bounds; kind = kind; represents_node = represents_old_leaf leaf is; wider = wider }

  sound_leaf : place.part.kind ≡ LeafBlock → IsSoundFor place octets → (leaf : LeafNode) × IsLeafBlock leaf octets × IsWider (range_of leaf.bounds) (range_of place.bounds)
  sound_leaf kind (inl leaf) =
      let decoded = leaf_decoded octets (OldLeaf leaf.1.wide leaf.0) leaf.1.represents_node leaf.1.wide leaf.0 refl in
      (decoded.leaf, decoded.block, subst (λ (r : Range). IsWider r (range_of place.bounds)) (sym decoded.range) leaf.1.wider)
  sound_leaf kind (inr column) = absurd (let k : LeafBlock ≡ ColumnBlock = sym kind ∙ column.1.kind in cc)

  pub some_leaf : place.part.kind ≡ LeafBlock → IsSoundFor place octets → (leaf : LeafNode) × IsLeafBlock leaf octets
  some_leaf kind sound = (let leaf = sound_leaf kind sound in (leaf.0, leaf.1))

  pub leaf_sound : (leaf : LeafNode) → place.part.kind ≡ LeafBlock → IsLeafBlock leaf octets → IsSoundFor place octets → IsSome leaf.bounds.end × IsWider (range_of leaf.bounds) (range_of place.bounds)
  leaf_sound leaf kind is sound =
      let other = sound_leaf kind sound in
      let same : other.0 ≡ leaf = one_leaf other.0 leaf octets (leaf_begins other.0 octets other.1) (leaf_begins leaf octets is) in
      (is.ended, subst (λ (l : LeafNode). IsWider (range_of l.bounds) (range_of place.bounds)) same other.2)

  -- ---- columns

  pub column_reported : (column : ColumnInBlock) → place.part.kind ≡ ColumnBlock → IsColumnBlock column octets → IsWider (range_of column.bounds) (range_of place.bounds) → IsColumnFor place octets column.parts
  column_reported column kind is wider = record { wide = range_of column.bounds; kind = kind; represents_node = represents_old_column column is; wider = wider }

  sound_column : place.part.kind ≡ ColumnBlock → IsSoundFor place octets → (column : ColumnInBlock) × IsColumnBlock column octets × IsWider (range_of column.bounds) (range_of place.bounds) × AreLower place.part.block column.parts
  sound_column kind (inl leaf) = absurd (let k : LeafBlock ≡ ColumnBlock = sym leaf.1.kind ∙ kind in cc)
  sound_column kind (inr column) =
      let decoded = column_decoded octets (OldColumn column.1.wide column.0) column.1.represents_node column.1.wide column.0 refl in
      (decoded.column, decoded.block, subst (λ (r : Range). IsWider r (range_of place.bounds)) (sym decoded.range) column.1.wider, subst (AreLower place.part.block) (sym decoded.same) column.2)

  pub some_column : place.part.kind ≡ ColumnBlock → IsSoundFor place octets → (column : ColumnInBlock) × IsColumnBlock column octets
  some_column kind sound = (let column = sound_column kind sound in (column.0, column.1))

  pub column_sound : (column : ColumnInBlock) → place.part.kind ≡ ColumnBlock → IsColumnBlock column octets → IsSoundFor place octets
      → (IsSome column.bounds.end × IsWider (range_of column.bounds) (range_of place.bounds)) × AreLower place.part.block column.parts
  column_sound column kind is sound =
      let other = sound_column kind sound in
      let same : other.0 ≡ column = one_column other.0 column octets (column_begins other.0 octets other.1) (column_begins column octets is) in (
        (is.ended, subst (λ (c : ColumnInBlock). IsWider (range_of c.bounds) (range_of place.bounds)) same other.2),
        subst (λ (c : ColumnInBlock). AreLower place.part.block c.parts) same other.3,
      )
