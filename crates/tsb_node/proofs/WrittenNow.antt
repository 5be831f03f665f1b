-- Octets that are written in the unit in which nodes are written read as what was written.
use Rattle.std.proofs.Common.{◌≡◌, ℕ, List, [], ◌∷◌, map, Option, Some, None, refl, sym, ap, subst, ◌∙◌}
use Rattle.std.specs.Option.{option_map}
use Rattle.route_model.specs.Units.{moments_in, written}
use Rattle.route_model.proofs.api.Units.{written_is, one_unit}
use Rattle.version_model.specs.declared.bounds.Bounds.{Bounds}
use Rattle.version_model.specs.declared.part.Part.{Part}
use Rattle.version_model.specs.Versions.{Version}
use Rattle.tsb_node.specs.Nodes.{unit_now}
use Rattle.tsb_node.specs.Scaling.{scaled, scaled_bounds, scaled_version, IsKnownUnit}
use Rattle.tsb_node.specs.Leaves.{LeafNode, scaled_leaf, IsWrittenLeafBlock, IsLeafPage, IsLeafBlock}
use Rattle.tsb_node.specs.Columns.{ColumnInPage, ColumnInBlock, scaled_part, scaled_column, scaled_old_column, IsWrittenColumnPage, IsWrittenColumnBlock, IsColumnPage, IsColumnBlock}
use Rattle.tsb_node.specs.KeyNodes.{KeyNodeInPage, IsWrittenKeyNodePage, IsKeyNodePage}
use Rattle.tsb_node.specs.inner.Fresh.{IsFreshLeafPage}
use Rattle.tsb_node.proofs.ScalingLaws.{scaled_now}

abbrev pub known_now : (number : ℕ) → number ≡ unit_now → IsKnownUnit number
known_now number e = record { unit = written; is_unit = written_is; numbered = e }

end_now : (o : Option ℕ) → option_map (scaled (moments_in written)) o ≡ o
end_now None = refl
end_now (Some s) = ap Some (scaled_now s)

pub bounds_now : (b : Bounds) → scaled_bounds (moments_in written) b ≡ b
bounds_now b = λ i. record { low = b.low; high = b.high; start = scaled_now b.start i; end = end_now b.end i }

pub versions_now : (vs : List Version) → map (scaled_version (moments_in written)) vs ≡ vs
versions_now [] = refl
versions_now (v ∷ vs) = λ i. record { key = v.key; stamp = scaled_now v.stamp i; value = v.value } ∷ versions_now vs i

parts_now : (ps : List Part) → map (scaled_part (moments_in written)) ps ≡ ps
parts_now [] = refl
parts_now (p ∷ ps) = λ i. record { start = scaled_now p.start i; kind = p.kind; block = p.block } ∷ parts_now ps i

pub scaled_leaf_now : (leaf : LeafNode) → scaled_leaf (moments_in written) leaf ≡ leaf
scaled_leaf_now leaf = λ i. record { bounds = bounds_now leaf.bounds i; versions = versions_now leaf.versions i }

scaled_column_now : (c : ColumnInPage) → scaled_column (moments_in written) c ≡ c
scaled_column_now c = λ i. record { bounds = bounds_now c.bounds i; parts = parts_now c.parts i; current = record { start = scaled_now c.current.start i; page = c.current.page } }

scaled_old_column_now : (c : ColumnInBlock) → scaled_old_column (moments_in written) c ≡ c
scaled_old_column_now c = λ i. record { bounds = bounds_now c.bounds i; parts = parts_now c.parts i }

pub leaf_now : (leaf : LeafNode) (octets : List ℕ) → IsFreshLeafPage leaf octets → IsLeafPage leaf octets
leaf_now leaf octets fresh = record {
  as_written = leaf;
  page = fresh.page;
  moments = record { known = known_now fresh.page.unit fresh.now; scaled_is = sym (scaled_leaf_now leaf) };
  valid = fresh.page.valid;
  current = fresh.page.page.current;
}

-- a page that is written in this unit is that of the leaf
pub fresh_now : (leaf : LeafNode) (octets : List ℕ) (is : IsLeafPage leaf octets) → is.page.unit ≡ unit_now → IsFreshLeafPage leaf octets
fresh_now leaf octets is now =
    let unit = ap moments_in (one_unit is.moments.known.unit written (sym is.moments.known.numbered ∙ now)) in
    let same : leaf ≡ is.as_written = is.moments.scaled_is ∙ ap (λ (k : ℕ). scaled_leaf k is.as_written) unit ∙ scaled_leaf_now is.as_written in
    subst (λ (l : LeafNode). IsFreshLeafPage l octets) (sym same) (record { page = is.page; now = now })

pub block_now : (leaf : LeafNode) (octets : List ℕ) (is : IsWrittenLeafBlock leaf octets) → is.unit ≡ unit_now → IsLeafBlock leaf octets
block_now leaf octets is now = record {
  as_written = leaf;
  block = is;
  moments = record { known = known_now is.unit now; scaled_is = sym (scaled_leaf_now leaf) };
  valid = is.valid;
  ended = is.block.ended;
}

pub column_now : (c : ColumnInPage) (octets : List ℕ) (is : IsWrittenColumnPage c octets) → is.unit ≡ unit_now → IsColumnPage c octets
column_now c octets is now = record {
  as_written = c;
  page = is;
  moments = record { known = known_now is.unit now; scaled_is = sym (scaled_column_now c) };
  valid = is.valid;
  current = is.page.current;
}

pub old_column_now : (c : ColumnInBlock) (octets : List ℕ) (is : IsWrittenColumnBlock c octets) → is.unit ≡ unit_now → IsColumnBlock c octets
old_column_now c octets is now = record {
  as_written = c;
  block = is;
  moments = record { known = known_now is.unit now; scaled_is = sym (scaled_old_column_now c) };
  valid = is.valid;
  ended = is.block.ended;
}

pub key_node_now : (k : KeyNodeInPage) (octets : List ℕ) (is : IsWrittenKeyNodePage k octets) → is.unit ≡ unit_now → IsKeyNodePage k octets
key_node_now k octets is now = record { page = is; known = known_now is.unit now; valid = is.valid; current = is.page.current }
