-- What the octets of a block represent to a place.
use Rattle.std.proofs.Common.{◌≡◌, ℕ, suc, ◌<◌, ◌≤◌, inl, inr, List, Option, Some, None, IsSome, slice_get, refl, sym, ◌∙◌, ap, subst, arith}
use Rattle.version_model.specs.declared.bounds.Bounds.{Bounds}
use Rattle.version_model.specs.declared.part.Part.{Part}
use Rattle.version_model.specs.declared.part.PartKind.TheVariants.{LeafBlock, ColumnBlock}
use Rattle.version_model.specs.declared.part.Place.{Place}
use Rattle.version_model.specs.Versions.{Version}
use Rattle.version_model.specs.Ranges.{Range, IsPoint, range_of, high_or, end_or}
use Rattle.version_model.specs.Blocks.{BlockNode, OldLeaf, OldColumn, IsWider, start_or}
use Rattle.once_store.specs.Digests.{IsWhole}
use Rattle.tsb_node.specs.declared.column.PartAt.{PartAt}
use Rattle.tsb_node.specs.Leaves.{LeafNode, IsLeafBlock}
use Rattle.std.proofs.lemmas.Option.{same_Some}
use Rattle.tsb_node.specs.Columns.{ColumnInBlock, IsColumnBlock, AreAscending, starts_of}
use Rattle.tsb_node.specs.Parts.{IsPartAt}
use Rattle.tsb_node.specs.Views.{BlockRepresents, represents_old_leaf, represents_old_column}
use Rattle.tsb_node.proofs.api.Blocks.{leaf_begins, leaf_whole, column_begins, column_made, column_whole, one_column}
use Rattle.tsb_walk.specs.Ways.{IsLeafFor, IsColumnFor, IsFit, LeadsTo}
use Rattle.tsb_walk.specs.inner.Steps.{IsLeafOf, IsEndOf}
use Rattle.tsb_walk.proofs.Spots.{LocatedIn, one_place}

pub record LeafView (octets : List ℕ) (wide : Range) (versions : List Version) : Type 0 where
  pub leaf : LeafNode
  pub block : IsLeafBlock leaf octets
  pub range : range_of leaf.bounds ≡ wide
  pub same : leaf.versions ≡ versions

pub leaf_decoded : (octets : List ℕ) (node : BlockNode) → BlockRepresents octets node → (wide : Range) (versions : List Version) → node ≡ OldLeaf wide versions → LeafView octets wide versions
leaf_decoded octets _ (represents_old_leaf leaf is) wide versions e =
    let r : range_of leaf.bounds ≡ wide = cc in
    let v : leaf.versions ≡ versions = cc in
    record { leaf = leaf; block = is; range = r; same = v }
leaf_decoded octets _ (represents_old_column column is) wide versions e = absurd (cc)

pub record ColumnView (octets : List ℕ) (wide : Range) (parts : List Part) : Type 0 where
  pub column : ColumnInBlock
  pub block : IsColumnBlock column octets
  pub range : range_of column.bounds ≡ wide
  pub same : column.parts ≡ parts

pub column_decoded : (octets : List ℕ) (node : BlockNode) → BlockRepresents octets node → (wide : Range) (parts : List Part) → node ≡ OldColumn wide parts → ColumnView octets wide parts
column_decoded octets _ (represents_old_leaf leaf is) wide parts e = absurd (cc)
column_decoded octets _ (represents_old_column column is) wide parts e =
    let r : range_of column.bounds ≡ wide = cc in
    let p : column.parts ≡ parts = cc in
    record { column = column; block = is; range = r; same = p }

-- ---- leaves

pub record LeafOf (place : Place) (octets : List ℕ) (versions : List Version) : Type 0 where
  pub leaf : LeafNode
  pub of : IsLeafOf place.bounds octets leaf
  pub same : leaf.versions ≡ versions

pub leaf_of : (place : Place) (octets : List ℕ) (versions : List Version) → IsLeafFor place octets versions → LeafOf place octets versions
leaf_of place octets versions for =
    let decoded = leaf_decoded octets (OldLeaf for.wide versions) for.represents_node for.wide versions refl in
    record {
      leaf = decoded.leaf;
      of = record { begins = leaf_begins decoded.leaf octets decoded.block; ended = decoded.block.ended; wider = subst (λ (r : Range). IsWider r (range_of place.bounds)) (sym decoded.range) for.wider };
      same = decoded.same;
    }

-- bounds that are read of octets are those of each leaf with which they begin
pub found_leaf : (bounds wide : Bounds) (octets : List ℕ) (leaf : LeafNode) → IsLeafOf bounds octets leaf → leaf.bounds ≡ wide → IsSome wide.end × IsWider (range_of wide) (range_of bounds)
found_leaf bounds wide octets leaf of same = (
  subst (λ (b : Bounds). IsSome b.end) same of.ended,
  subst (λ (b : Bounds). IsWider (range_of b) (range_of bounds)) same of.wider,
)

-- ---- columns

some_is : {X : Type 0} (o : Option X) → IsSome o → (x : X) × (o ≡ Some x)
some_is None is = absurd (cc)
some_is (Some x) is = (x, refl)

pub record ColumnOf (place : Place) (octets : List ℕ) (parts : List Part) : Type 0 where
  pub column : ColumnInBlock
  pub end : ℕ
  pub of : IsEndOf place.bounds octets column end
  pub same : column.parts ≡ parts

pub column_of : (place : Place) (octets : List ℕ) (parts : List Part) → IsColumnFor place octets parts → ColumnOf place octets parts
column_of place octets parts for =
    let decoded = column_decoded octets (OldColumn for.wide parts) for.represents_node for.wide parts refl in
    let end = some_is decoded.column.bounds.end decoded.block.ended in
    record {
      column = decoded.column;
      end = end.0;
      of = record { begins = column_begins decoded.column octets decoded.block; ended = end.1; wider = subst (λ (r : Range). IsWider r (range_of place.bounds)) (sym decoded.range) for.wider };
      same = decoded.same;
    }

-- and of each column
pub end_found : (bounds wide : Bounds) (octets : List ℕ) (column : ColumnInBlock) (end : ℕ) → IsEndOf bounds octets column end → column.bounds ≡ wide → IsSome wide.end × IsWider (range_of wide) (range_of bounds)
end_found bounds wide octets column end of same =
    let some : IsSome column.bounds.end = subst IsSome (sym of.ended) refl in (
      subst (λ (b : Bounds). IsSome b.end) same some,
      subst (λ (b : Bounds). IsWider (range_of b) (range_of bounds)) same of.wider,
    )

-- a block that is fit carries its digest
pub fit_whole : (place : Place) (octets : List ℕ) (key stamp : ℕ) → IsFit place octets key stamp → IsWhole octets
fit_whole place octets key stamp (inl leaf) = (let decoded = leaf_decoded octets _ leaf.1.represents_node leaf.1.wide leaf.0 refl in leaf_whole decoded.leaf octets decoded.block)
fit_whole place octets key stamp (inr next) = (let decoded = column_decoded octets _ next.1.column.represents_node next.1.column.wide next.1.parts refl in column_whole decoded.column octets decoded.block)

-- a block that is fit for a leaf's place is the leaf
pub fit_leaf : (place : Place) (octets : List ℕ) (key stamp : ℕ) → place.part.kind ≡ LeafBlock → IsFit place octets key stamp → (versions : List Version) × IsLeafFor place octets versions
fit_leaf place octets key stamp kind (inl leaf) = leaf
fit_leaf place octets key stamp kind (inr next) = absurd (let k : LeafBlock ≡ ColumnBlock = sym kind ∙ next.1.column.kind in cc)

-- and one that is fit for a column's place is the column, whose end is read
pub fit_column : (place : Place) (octets : List ℕ) (key stamp : ℕ) (read : Option ℕ) → ((column : ColumnInBlock) (end : ℕ) → IsEndOf place.bounds octets column end → read ≡ Some end)
    → place.part.kind ≡ ColumnBlock → IsFit place octets key stamp → (column : ColumnInBlock) × (end : ℕ) × IsEndOf place.bounds octets column end × (read ≡ Some end)
fit_column place octets key stamp read is kind (inl leaf) = absurd (let k : LeafBlock ≡ ColumnBlock = sym leaf.1.kind ∙ kind in cc)
fit_column place octets key stamp read is kind (inr next) = (let of = column_of place octets next.1.parts next.1.column in (of.column, of.end, of.of, is of.column of.end of.of))

-- the stamp lies in the part to which a column leads
pub leads_located : (place : Place) (octets : List ℕ) (key stamp : ℕ) (next : Place) (leads : LeadsTo place octets key stamp next) → LocatedIn leads.parts (end_or place.bounds.end) stamp leads.part.place next.part
leads_located place octets key stamp next leads =
    let s : next.part.start ≡ next.bounds.start = ap (λ (r : Range). r.start) leads.part.range in
    let e : start_or (end_or place.bounds.end) (slice_get leads.parts (suc leads.part.place)) ≡ end_or next.bounds.end = ap (λ (r : Range). r.end) leads.part.range in
    let from : next.bounds.start ≤ stamp = leads.point.start in
    let before : stamp < end_or next.bounds.end = leads.point.end in
    record { at = leads.part.at; from = omega (arith, s, from); before = omega (arith, e, before) }

-- the parts of a column follow one another
pub column_rises : (place : Place) (octets : List ℕ) (parts : List Part) → IsColumnFor place octets parts → AreAscending (starts_of parts)
column_rises place octets parts for =
    let of = column_of place octets parts for in
    subst (λ (ps : List Part). AreAscending (starts_of ps)) of.same of.of.begins.valid.follow.rising

module _ (place : Place) (octets : List ℕ) (column : ColumnInBlock) (end : ℕ) (of : IsEndOf place.bounds octets column end) where
  end_is : end_or place.bounds.end ≡ end
  end_is = of.wider.end ∙ ap end_or of.ended

  -- a column whose part isn't in a block of a lower number isn't fit
  pub higher_unfit : (key stamp : ℕ) (found : PartAt) → place.part.kind ≡ ColumnBlock → IsPartAt column.parts end stamp found → place.part.block ≤ found.part.block → IsFit place octets key stamp → ⊥
  higher_unfit key stamp found kind is above (inl leaf) = absurd (let k : LeafBlock ≡ ColumnBlock = sym leaf.1.kind ∙ kind in cc)
  higher_unfit key stamp found kind is above (inr next) =
      let leads = next.1 in
      let other = column_of place octets leads.parts leads.column in
      let same : column.parts ≡ leads.parts = ap (λ (c : ColumnInBlock). c.parts) (one_column column other.column octets of.begins other.of.begins) ∙ other.same in
      let here : LocatedIn column.parts end stamp is.place found.part = record { at = is.at; from = is.start; before = subst (λ (n : ℕ). stamp < n) is.to_end is.before } in
      let there : LocatedIn leads.parts end stamp leads.part.place next.0.part = subst (λ (n : ℕ). LocatedIn leads.parts n stamp leads.part.place next.0.part) end_is (leads_located place octets key stamp next.0 leads) in
      let here' : LocatedIn leads.parts end stamp is.place found.part = subst (λ (ps : List Part). LocatedIn ps end stamp is.place found.part) same here in
      let one = one_place leads.parts end stamp is.place leads.part.place found.part next.0.part (column_rises place octets leads.parts leads.column) here' there in
      let at : slice_get leads.parts is.place ≡ Some next.0.part = subst (λ (n : ℕ). slice_get leads.parts n ≡ Some next.0.part) (sym one) there.at in
      let part : found.part ≡ next.0.part = same_Some found.part next.0.part (sym here'.at ∙ at) in
      let block : found.part.block ≡ next.0.part.block = ap (λ (p : Part). p.block) part in
      omega (arith, above, leads.lower, block)

  pub stamp_before : (key stamp : ℕ) → IsPoint (range_of place.bounds) key stamp → stamp < end
  stamp_before key stamp point = subst (λ (n : ℕ). stamp < n) end_is point.end

  pub stamp_from : (key stamp : ℕ) → IsPoint (range_of place.bounds) key stamp → column.bounds.start ≤ stamp
  stamp_from key stamp point = omega (arith, of.wider.start, point.start)

  abbrev next_at : PartAt → Place
  next_at found = record { bounds = record { low = place.bounds.low; high = place.bounds.high; start = found.part.start; end = Some found.end }; part = found.part }

  pub part_leads : (key stamp : ℕ) (found : PartAt) → place.part.kind ≡ ColumnBlock → IsWhole octets → IsPartAt column.parts end stamp found → found.part.block < place.part.block → IsPoint (range_of place.bounds) key stamp
      → (next : Place) → next.bounds ≡ record { low = place.bounds.low; high = place.bounds.high; start = found.part.start; end = Some found.end } → next.part ≡ found.part → LeadsTo place octets key stamp next
  part_leads key stamp found kind whole is lower point next bounds part =
      let some : IsSome column.bounds.end = subst IsSome (sym of.ended) refl in
      let last : start_or (end_or place.bounds.end) (slice_get column.parts (suc is.place)) ≡ found.end = ap (λ (n : ℕ). start_or n (slice_get column.parts (suc is.place))) end_is ∙ sym is.to_end in
      let leads : LeadsTo place octets key stamp (next_at found) = record {
        parts = column.parts;
        column = record { wide = range_of column.bounds; kind = kind; represents_node = represents_old_column column (column_made column octets of.begins some whole); wider = of.wider };
        part = record { place = is.place; at = is.at; range = λ i. record { low = place.bounds.low; high = high_or place.bounds.high; start = found.part.start; end = last i } };
        lower = lower;
        point = record { low = point.low; high = point.high; start = is.start; end = is.before };
      } in
      subst (λ (n : Place). LeadsTo place octets key stamp n) (λ i. record { bounds = sym bounds i; part = sym part i }) leads
