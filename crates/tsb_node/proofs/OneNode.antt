-- Octets are one column at most, and one key node; a page represents one thing at most, and so does a block.
use Rattle.std.proofs.Common.{◌≡◌, ◌+◌, ℕ, length, List, [], ◌∷◌, replicate, slice_index, None, refl, sym, ap, subst, ◌∙◌, arith}
use Rattle.std.specs.List.{flat_map, AllByRecursion}
use Rattle.version_model.specs.declared.bounds.Bounds.{Bounds}
use Rattle.version_model.specs.declared.part.Part.{Part}
use Rattle.version_model.specs.declared.child.Child.{Child}
use Rattle.version_model.specs.Ranges.{range_of}
use Rattle.version_model.specs.Pages.{PageNode, CurrentLeaf, ColumnNode, KeyNode}
use Rattle.version_model.specs.Blocks.{BlockNode, OldLeaf, OldColumn}
use Rattle.tsb_node.specs.declared.header.Header.{Header}
use Rattle.sha2.specs.Sha256.{sha256}
use Rattle.tsb_node.specs.Leaves.{LeafNode, BeginsAsWrittenLeaf, BeginsAsLeaf, IsLeafPage, IsLeafBlock, scaled_leaf, entries}
use Rattle.tsb_node.specs.Columns.{ColumnInPage, ColumnInBlock, IsColumnPage, IsColumnBlock, IsPartEntry, part_octets, scaled_column, scaled_old_column, old_column_body}
use Rattle.tsb_node.specs.KeyNodes.{KeyNodeInPage, IsKeyNodePage, IsChildEntry, child_octets}
use Rattle.tsb_node.specs.Children.{BeginsAsWrittenKeyNode, BeginsAsKeyNode}
use Rattle.tsb_node.specs.Parts.{BeginsAsWrittenColumn, BeginsAsWrittenOldColumn, BeginsAsColumn, BeginsAsOldColumn}
use Rattle.tsb_node.specs.Views.{PageRepresents, represents_leaf, represents_column, represents_key_node, BlockRepresents, represents_old_leaf, represents_old_column, keys_between}
use Rattle.tsb_node.specs.inner.NodeReading.{BeginsAsNode}
use Rattle.tsb_node.specs.inner.PartReading.{IsPartBefore}
use Rattle.tsb_node.proofs.Leaves.{leaf_versions, begins_page, begins_block}
use Rattle.tsb_node.proofs.LeafReading.{begun_one, leaf_header, leaf_begun}
use Rattle.tsb_node.specs.Headers.{HasHeader, IsHeaderOf}
use Rattle.tsb_node.proofs.ReadingLaws.{SameHeader}
use Rattle.tsb_node.proofs.RowLaws.{rows_one}
use Rattle.tsb_node.proofs.PartLaws.{parts_encoded, current_back, current_one}
use Rattle.tsb_node.proofs.ColumnReading.{column_header, column_entries, column_node, column_of_begun, old_header, old_node, old_of_begun}
use Rattle.tsb_node.proofs.ChildLaws.{children_encoded, key_node_header, key_node_node, key_node_of_begun}
use Rattle.tsb_node.proofs.NodeLaws.{nodes_same, begun_same}
use Rattle.tsb_node.proofs.MomentLaws.{same_in_moments, unit_begun}

pub column_begun : (c : ColumnInPage) (octets : List ℕ) → (is : BeginsAsWrittenColumn c octets) → BeginsAsNode (column_header is.unit c) (column_entries c) octets
column_begun c octets is = record { valid = column_node is.unit c is.valid; last = is.last; encoded = is.encoded }

pub old_begun : (c : ColumnInBlock) (octets : List ℕ) → (is : BeginsAsWrittenOldColumn c octets) → BeginsAsNode (old_header is.unit c) (flat_map part_octets c.parts) octets
old_begun c octets is = record { valid = old_node is.unit c is.valid; last = is.last; encoded = is.encoded }

pub key_node_begun : (k : KeyNodeInPage) (octets : List ℕ) → (is : BeginsAsWrittenKeyNode k octets) → BeginsAsNode (key_node_header is.unit k) (flat_map child_octets k.children) octets
key_node_begun k octets is = record { valid = key_node_node is.unit k is.valid; last = is.last; encoded = is.encoded }

open_all : (ps : List Part) → AllByRecursion IsPartEntry ps → AllByRecursion (IsPartBefore None) ps
open_all [] all = tt
open_all (p ∷ ps) all = (record { entry = all.0; before = tt }, open_all ps all.1)

parts_one : (ps qs : List Part) → AllByRecursion IsPartEntry ps → AllByRecursion IsPartEntry qs → flat_map part_octets ps ≡ flat_map part_octets qs → ps ≡ qs
parts_one ps qs p q e = rows_one part_octets (IsPartBefore None) (λ (x : Part). x.start) 25 (parts_encoded None) ps qs (open_all ps p) (open_all qs q) e

column_written_one : (a b : ColumnInPage) (octets : List ℕ) → BeginsAsWrittenColumn a octets → BeginsAsWrittenColumn b octets → a ≡ b
column_written_one a b octets p q =
    let of = column_of_begun (column_header p.unit a) (column_entries a) octets b q.unit (column_begun a octets p) q.valid (column_begun b octets q) in
    let s = current_back (column_entries a) a.current (flat_map part_octets a.parts) refl in
    let t = current_back (column_entries a) b.current (flat_map part_octets b.parts) of.encoded in
    let parts = parts_one a.parts b.parts p.valid.each q.valid.each (sym s.0 ∙ t.0) in
    let current = current_one a.current b.current (record { start = p.valid.current_start; page = p.valid.current_page }) (record { start = q.valid.current_start; page = q.valid.current_page }) (sym s.1 ∙ t.1) in
    let bounds : a.bounds ≡ b.bounds = sym of.bounds in
    λ i. record { bounds = bounds i; parts = parts i; current = current i }

old_column_written_one : (a b : ColumnInBlock) (octets : List ℕ) → BeginsAsWrittenOldColumn a octets → BeginsAsWrittenOldColumn b octets → a ≡ b
old_column_written_one a b octets p q =
    let of = old_of_begun (old_header p.unit a) (flat_map part_octets a.parts) octets b q.unit (old_begun a octets p) q.valid (old_begun b octets q) in
    let parts = parts_one a.parts b.parts p.valid.each q.valid.each of.encoded in
    let bounds : a.bounds ≡ b.bounds = sym of.bounds in
    λ i. record { bounds = bounds i; parts = parts i }

key_node_written_one : (a b : KeyNodeInPage) (octets : List ℕ) → BeginsAsWrittenKeyNode a octets → BeginsAsWrittenKeyNode b octets → a ≡ b
key_node_written_one a b octets p q =
    let of = key_node_of_begun (key_node_header p.unit a) (flat_map child_octets a.children) octets b q.unit (key_node_begun a octets p) q.valid (key_node_begun b octets q) in
    let bounds : a.bounds ≡ b.bounds = sym of.bounds in
    let each = subst (λ (x : Bounds). AllByRecursion (IsChildEntry x) b.children) of.bounds q.valid.each in
    let children = rows_one child_octets (IsChildEntry a.bounds) (λ (x : Child). x.low) 48 (children_encoded a.bounds) a.children b.children p.valid.each each of.encoded in
    let level : a.level ≡ b.level = of.level in
    λ i. record { level = level i; bounds = bounds i; children = children i }

pub leaf_written_one : (a b : LeafNode) (octets : List ℕ) → BeginsAsWrittenLeaf a octets → BeginsAsWrittenLeaf b octets → a ≡ b
leaf_written_one a b octets p q =
    let bounds = begun_one a b octets p q in
    let versions = sym (leaf_versions a octets p) ∙ leaf_versions b octets q in
    λ i. record { bounds = bounds i; versions = versions i }

-- the unit that the octets of a column name
pub column_unit : (c : ColumnInPage) (octets : List ℕ) → (is : BeginsAsWrittenColumn c octets) → slice_index octets 1 ≡ is.unit
column_unit c octets is = unit_begun _ (column_entries c) octets (column_begun c octets is)

pub old_column_unit : (c : ColumnInBlock) (octets : List ℕ) → (is : BeginsAsWrittenOldColumn c octets) → slice_index octets 1 ≡ is.unit
old_column_unit c octets is = unit_begun _ (flat_map part_octets c.parts) octets (old_begun c octets is)

-- ---- in moments

abbrev pub column_page : (c : ColumnInPage) (octets : List ℕ) → IsColumnPage c octets → BeginsAsColumn c octets
column_page c octets is = record {
  as_written = is.as_written;
  begins = record { unit = is.page.unit; valid = is.page.valid; last = replicate 32 0; encoded = is.page.page.encoded };
  moments = is.moments;
  valid = is.valid;
}

abbrev pub key_page : (k : KeyNodeInPage) (octets : List ℕ) → IsKeyNodePage k octets → BeginsAsKeyNode k octets
key_page k octets is = record {
  begins = record { unit = is.page.unit; valid = is.page.valid; last = replicate 32 0; encoded = is.page.page.encoded };
  known = is.known;
  valid = is.valid;
}

abbrev pub old_block : (c : ColumnInBlock) (octets : List ℕ) → IsColumnBlock c octets → BeginsAsOldColumn c octets
old_block c octets is = record {
  as_written = is.as_written;
  begins = record { unit = is.block.unit; valid = is.block.valid; last = sha256 (old_column_body is.block.unit is.as_written); encoded = is.block.block.encoded };
  moments = is.moments;
  valid = is.valid;
}

abbrev pub leaf_page : (leaf : LeafNode) (octets : List ℕ) → IsLeafPage leaf octets → BeginsAsLeaf leaf octets
leaf_page leaf octets is = record { as_written = is.as_written; begins = begins_page is.as_written octets is.page; moments = is.moments; valid = is.valid }

abbrev pub leaf_block : (leaf : LeafNode) (octets : List ℕ) → IsLeafBlock leaf octets → BeginsAsLeaf leaf octets
leaf_block leaf octets is = record { as_written = is.as_written; begins = begins_block is.as_written octets is.block; moments = is.moments; valid = is.valid }

-- the node as which octets begin, in its unit
leaf_node_begun : (leaf : LeafNode) (octets : List ℕ) → (is : BeginsAsLeaf leaf octets) → BeginsAsNode (leaf_header is.begins.unit is.as_written) (entries is.as_written.versions) octets
leaf_node_begun leaf octets is = leaf_begun is.as_written octets is.begins

pub leaf_one : (a b : LeafNode) (octets : List ℕ) → BeginsAsLeaf a octets → BeginsAsLeaf b octets → a ≡ b
leaf_one a b octets p q =
    let unit = (nodes_same _ _ _ _ octets (leaf_begun p.as_written octets p.begins) (leaf_begun q.as_written octets q.begins)).unit in
    same_in_moments scaled_leaf p.begins.unit q.begins.unit p.as_written q.as_written a b unit (leaf_written_one p.as_written q.as_written octets p.begins q.begins) p.moments q.moments

pub column_one : (a b : ColumnInPage) (octets : List ℕ) → BeginsAsColumn a octets → BeginsAsColumn b octets → a ≡ b
column_one a b octets p q =
    let unit = (nodes_same _ _ _ _ octets (column_begun p.as_written octets p.begins) (column_begun q.as_written octets q.begins)).unit in
    same_in_moments scaled_column p.begins.unit q.begins.unit p.as_written q.as_written a b unit (column_written_one p.as_written q.as_written octets p.begins q.begins) p.moments q.moments

pub old_column_one : (a b : ColumnInBlock) (octets : List ℕ) → BeginsAsOldColumn a octets → BeginsAsOldColumn b octets → a ≡ b
old_column_one a b octets p q =
    let unit = (nodes_same _ _ _ _ octets (old_begun p.as_written octets p.begins) (old_begun q.as_written octets q.begins)).unit in
    same_in_moments scaled_old_column p.begins.unit q.begins.unit p.as_written q.as_written a b unit (old_column_written_one p.as_written q.as_written octets p.begins q.begins) p.moments q.moments

pub key_node_one : (a b : KeyNodeInPage) (octets : List ℕ) → BeginsAsKeyNode a octets → BeginsAsKeyNode b octets → a ≡ b
key_node_one a b octets p q = key_node_written_one a b octets p.begins q.begins

kinds : (h g : Header) (es fs octets : List ℕ) → BeginsAsNode h es octets → BeginsAsNode g fs octets → h.kind ≡ g.kind
kinds h g es fs octets p q = (nodes_same h g es fs octets p q).kind

leaf_kind : (l : LeafNode) (octets : List ℕ) → (p : IsLeafPage l octets) → BeginsAsNode (leaf_header p.page.unit p.as_written) (entries p.as_written.versions) octets
leaf_kind l octets p = leaf_begun p.as_written octets (begins_page p.as_written octets p.page)

leaf_block_kind : (l : LeafNode) (octets : List ℕ) → (p : IsLeafBlock l octets) → BeginsAsNode (leaf_header p.block.unit p.as_written) (entries p.as_written.versions) octets
leaf_block_kind l octets p = leaf_begun p.as_written octets (begins_block p.as_written octets p.block)

column_kind : (c : ColumnInPage) (octets : List ℕ) → (p : IsColumnPage c octets) → BeginsAsNode (column_header p.page.unit p.as_written) (column_entries p.as_written) octets
column_kind c octets p = column_begun p.as_written octets (column_page c octets p).begins

old_kind : (c : ColumnInBlock) (octets : List ℕ) → (p : IsColumnBlock c octets) → BeginsAsNode (old_header p.block.unit p.as_written) (flat_map part_octets p.as_written.parts) octets
old_kind c octets p = old_begun p.as_written octets (old_block c octets p).begins

key_kind : (k : KeyNodeInPage) (octets : List ℕ) → (p : IsKeyNodePage k octets) → BeginsAsNode (key_node_header p.page.unit k) (flat_map child_octets k.children) octets
key_kind k octets p = key_node_begun k octets (key_page k octets p).begins

pub page_one : (octets : List ℕ) (a b : PageNode) → PageRepresents octets a → PageRepresents octets b → a ≡ b
page_one octets _ _ (represents_leaf l p) (represents_leaf m q) = ap (λ (x : LeafNode). CurrentLeaf (keys_between x.bounds) x.bounds.start x.versions) (leaf_one l m octets (leaf_page l octets p) (leaf_page m octets q))
page_one octets _ _ (represents_leaf l p) (represents_column c q) = absurd (omega (arith, kinds _ _ _ _ octets (leaf_kind l octets p) (column_kind c octets q)))
page_one octets _ _ (represents_leaf l p) (represents_key_node k q) = absurd (omega (arith, kinds _ _ _ _ octets (leaf_kind l octets p) (key_kind k octets q)))
page_one octets _ _ (represents_column c p) (represents_leaf l q) = absurd (omega (arith, kinds _ _ _ _ octets (column_kind c octets p) (leaf_kind l octets q)))
page_one octets _ _ (represents_column c p) (represents_column d q) = ap (λ (x : ColumnInPage). ColumnNode (keys_between x.bounds) x.parts x.current.start x.current.page) (column_one c d octets (column_page c octets p) (column_page d octets q))
page_one octets _ _ (represents_column c p) (represents_key_node k q) = absurd (omega (arith, kinds _ _ _ _ octets (column_kind c octets p) (key_kind k octets q)))
page_one octets _ _ (represents_key_node k p) (represents_leaf l q) = absurd (omega (arith, kinds _ _ _ _ octets (key_kind k octets p) (leaf_kind l octets q)))
page_one octets _ _ (represents_key_node k p) (represents_column c q) = absurd (omega (arith, kinds _ _ _ _ octets (key_kind k octets p) (column_kind c octets q)))
page_one octets _ _ (represents_key_node k p) (represents_key_node l q) = ap (λ (x : KeyNodeInPage). KeyNode x.level (keys_between x.bounds) x.children) (key_node_one k l octets (key_page k octets p) (key_page l octets q))

pub block_one : (octets : List ℕ) (a b : BlockNode) → BlockRepresents octets a → BlockRepresents octets b → a ≡ b
block_one octets _ _ (represents_old_leaf l p) (represents_old_leaf m q) = ap (λ (x : LeafNode). OldLeaf (range_of x.bounds) x.versions) (leaf_one l m octets (leaf_block l octets p) (leaf_block m octets q))
block_one octets _ _ (represents_old_leaf l p) (represents_old_column c q) = absurd (omega (arith, kinds _ _ _ _ octets (leaf_block_kind l octets p) (old_kind c octets q)))
block_one octets _ _ (represents_old_column c p) (represents_old_leaf l q) = absurd (omega (arith, kinds _ _ _ _ octets (old_kind c octets p) (leaf_block_kind l octets q)))
block_one octets _ _ (represents_old_column c p) (represents_old_column d q) = ap (λ (x : ColumnInBlock). OldColumn (range_of x.bounds) x.parts) (old_column_one c d octets (old_block c octets p) (old_block d octets q))

-- the header that is read is the node's
as_its_own : (h g : Header) → SameHeader h g → IsHeaderOf g.kind g.level g.count g.bounds h
as_its_own h g same = record { kind_is = same.kind; level_is = same.level; count_is = same.count; bounds_are = same.bounds }

pub header_of_column : (c : ColumnInPage) (h : Header) (octets : List ℕ) → BeginsAsWrittenColumn c octets → HasHeader h octets → IsHeaderOf 2 1 (length c.parts + 1) c.bounds h
header_of_column c h octets is has = as_its_own h (column_header is.unit c) (begun_same (column_header is.unit c) h (column_entries c) octets (column_begun c octets is) has)

pub header_of_key_node : (k : KeyNodeInPage) (h : Header) (octets : List ℕ) → BeginsAsWrittenKeyNode k octets → HasHeader h octets → IsHeaderOf 3 k.level (length k.children) k.bounds h
header_of_key_node k h octets is has = as_its_own h (key_node_header is.unit k) (begun_same (key_node_header is.unit k) h (flat_map child_octets k.children) octets (key_node_begun k octets is) has)
