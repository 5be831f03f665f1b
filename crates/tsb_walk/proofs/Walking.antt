-- Walks through known blocks.
use Rattle.std.proofs.Common.{◌<◌, ◌≡◌, ◌↔◌, ℕ, suc, ◌≤◌, inl, inr, List, Option, Some, IsSome, slice_get, refl, sym, ◌∙◌, ap, subst, arith}
use Rattle.std.proofs.lemmas.Option.{same_Some}
use Rattle.disk_models.specs.declared.once.OnceDisk.{Ghosts}
use Rattle.once_store.specs.declared.reader.ShelfReader.{ShelfReader}
use Rattle.once_store.specs.Readers.{IsCached, KnowsCached, reader_disk}
use Rattle.version_model.specs.declared.part.Part.{Part}
use Rattle.version_model.specs.declared.part.PartKind.TheVariants.{LeafBlock, ColumnBlock}
use Rattle.version_model.specs.declared.part.Place.{Place}
use Rattle.version_model.specs.Versions.{Version}
use Rattle.version_model.specs.Ranges.{Range, IsPoint, range_of, end_or}
use Rattle.version_model.specs.LeafVersions.{LeafRepresents}
use Rattle.version_model.specs.Blocks.{BlockNode, OldLeaf, OldColumn, PartRepresents, PlaceRepresents, by_leaf, by_parts, AreParts, IsWider, start_or}
use Rattle.version_model.proofs.api.Representing.{leaf_represents_all, column_represents_all}
use Rattle.tsb_node.specs.Views.{BlockRepresents}
use Rattle.tsb_node.proofs.api.Blocks.{one_decoded}
use Rattle.tsb_walk.specs.Knowing.{ReadsWell, IsKnown, AreKnown, RepresentsKnown}
use Rattle.tsb_walk.specs.Ways.{IsLeafFor, IsFit, LeadsTo}
use Rattle.tsb_walk.specs.inner.Arriving.{HasLeaf}
use Rattle.tsb_walk.proofs.Spots.{spot_in}

module _ {O Pen Seen : Type 0} (device : Ghosts O Pen Seen) (old new : ShelfReader O Pen Seen device) (seen seen' : Seen) where
  -- a reader that has read a known block reads on well
  pub reads_on : (n : ℕ) (octets : List ℕ) → ReadsWell device old seen → IsKnown (device.known seen) (device.block_count (reader_disk old)) n octets
      → (device.honest_seen (reader_disk old) seen ↔ device.honest_seen (reader_disk old) seen') → reader_disk new ≡ reader_disk old
      → (device.honest_seen (reader_disk old) seen → KnowsCached device old seen → IsSome (device.known seen n) → KnowsCached device new seen')
      → ReadsWell device new seen'
  reads_on n octets well is honest disk knows = record {
    honest = subst (λ (d : O). device.honest_seen d seen') (sym disk) (honest.0 well.honest);
    kept = knows well.honest well.kept (subst IsSome (sym is.at) refl);
  }

  -- and keeps the known block alone under its number
  pub only_kept : (n : ℕ) (octets : List ℕ) → ReadsWell device new seen' → device.known seen' ≡ device.known seen → IsKnown (device.known seen) (device.block_count (reader_disk old)) n octets
      → (block : List ℕ) → IsCached new n block → block ≡ octets
  only_kept n octets well same is block kept = same_Some block octets (sym (well.kept n block kept) ∙ ap (λ (f : ℕ → Option (List ℕ)). f n) same ∙ is.at)

-- what a block represents that may represent a part
abbrev pub SuitsPart : Range → Part → BlockNode → Type 0
SuitsPart r part (OldLeaf wide versions) = (part.kind ≡ LeafBlock) × IsWider wide r
SuitsPart r part (OldColumn wide parts) = (part.kind ≡ ColumnBlock) × IsWider wide r × AreParts r parts part.block

pub node_of : (blocks : ℕ → Option BlockNode) (all : List Version) (r : Range) (part : Part) → PartRepresents blocks all r part → (node : BlockNode) × (blocks part.block ≡ Some node) × SuitsPart r part node
node_of blocks all _ _ (by_leaf r part wide versions kind at wider shows) = (OldLeaf wide versions, at, (kind, wider))
node_of blocks all _ _ (by_parts r part wide parts kind at wider are stand) = (OldColumn wide parts, at, (kind, wider, are))

-- a column whose parts follow one another leads on, for each point of its place
leads_on : (place : Place) (octets : List ℕ) (wide : Range) (parts : List Part) (key stamp : ℕ) → BlockRepresents octets (OldColumn wide parts) → SuitsPart (range_of place.bounds) place.part (OldColumn wide parts) → IsPoint (range_of place.bounds) key stamp
    → (next : Place) × LeadsTo place octets key stamp next
leads_on place octets wide parts key stamp represents_node suits point =
    let are = suits.2 in
    let low : are.first.start ≤ stamp = omega (arith, are.from_start, point.start) in
    let spot = spot_in parts (end_or place.bounds.end) stamp are.first are.at_first low point.end in (
      record { bounds = record { low = place.bounds.low; high = place.bounds.high; start = spot.part.start; end = Some (start_or (end_or place.bounds.end) (slice_get parts (suc spot.place))) }; part = spot.part },
      record {
        parts = parts;
        column = record { wide = wide; kind = suits.0; represents_node = represents_node; wider = suits.1 };
        part = record { place = spot.place; at = spot.located.at; range = refl };
        lower = are.lower spot.place spot.part spot.located.at;
        point = record { low = point.low; high = point.high; start = spot.located.from; end = spot.located.before };
      },
    )

fit_of : (place : Place) (octets : List ℕ) (node : BlockNode) (key stamp : ℕ) → IsPoint (range_of place.bounds) key stamp → BlockRepresents octets node → SuitsPart (range_of place.bounds) place.part node → IsFit place octets key stamp
fit_of place octets (OldLeaf wide versions) key stamp point represents_node suits = inl (versions, record { wide = wide; kind = suits.0; represents_node = represents_node; wider = suits.1 })
fit_of place octets (OldColumn wide parts) key stamp point represents_node suits = inr (leads_on place octets wide parts key stamp represents_node suits point)

module _ (known : ℕ → Option (List ℕ)) (count : ℕ) (blocks : ℕ → Option BlockNode) (are : AreKnown known count blocks) (all : List Version) (place : Place) (represents_all : PlaceRepresents blocks all place) where
  -- a place stands by a known block
  pub represents_block : (octets : List ℕ) × IsKnown known count place.part.block octets
  represents_block =
      let node = node_of blocks all (range_of place.bounds) place.part represents_all in
      let decoded = are.represents_node place.part.block node.0 node.1 in
      (decoded.0, decoded.1)

  -- that is fit for each of its points
  pub represents_fit : (key stamp : ℕ) → IsPoint (range_of place.bounds) key stamp → (octets : List ℕ) × IsKnown known count place.part.block octets × IsFit place octets key stamp
  represents_fit key stamp point =
      let node = node_of blocks all (range_of place.bounds) place.part represents_all in
      let decoded = are.represents_node place.part.block node.0 node.1 in
      (decoded.0, decoded.1, fit_of place decoded.0 node.0 key stamp point decoded.2 node.2)

  -- what the known block represents is what stands there
  node_is : (octets : List ℕ) (node : BlockNode) → IsKnown known count place.part.block octets → BlockRepresents octets node → blocks place.part.block ≡ Some node
  node_is octets node is represents_node =
      let other = node_of blocks all (range_of place.bounds) place.part represents_all in
      let decoded = are.represents_node place.part.block other.0 other.1 in
      let same : decoded.0 ≡ octets = same_Some decoded.0 octets (sym decoded.1.at ∙ is.at) in
      other.1 ∙ ap Some (one_decoded octets other.0 node (subst (λ (o : List ℕ). BlockRepresents o other.0) same decoded.2) represents_node)

  pub leaf_shows : (octets : List ℕ) (versions : List Version) → IsKnown known count place.part.block octets → IsLeafFor place octets versions → LeafRepresents all (range_of place.bounds) versions
  leaf_shows octets versions is leaf = (leaf_represents_all blocks all (range_of place.bounds) place.part leaf.wide versions (node_is octets (OldLeaf leaf.wide versions) is leaf.represents_node) represents_all).shows

  pub next_represents : (octets : List ℕ) (key stamp : ℕ) (next : Place) → IsKnown known count place.part.block octets → LeadsTo place octets key stamp next → PlaceRepresents blocks all next
  next_represents octets key stamp next is leads =
      (column_represents_all blocks all (range_of place.bounds) place.part leads.column.wide leads.parts (node_is octets (OldColumn leads.column.wide leads.parts) is leads.column.represents_node) represents_all).stand (range_of next.bounds) next.part leads.part

module _ {O Pen Seen : Type 0} (device : Ghosts O Pen Seen) (reader reader' : ShelfReader O Pen Seen device) (seen seen' : Seen) (all : List Version) (place : Place) (represents_all : RepresentsKnown device reader seen all place) where
  -- the place's block is known
  pub place_block : (octets : List ℕ) × IsKnown (device.known seen) (device.block_count (reader_disk reader)) place.part.block octets
  place_block = represents_block (device.known seen) (device.block_count (reader_disk reader)) represents_all.blocks represents_all.known all place represents_all.represents_all

  -- and fit
  pub place_fit : (key stamp : ℕ) → IsPoint (range_of place.bounds) key stamp → (octets : List ℕ) × IsKnown (device.known seen) (device.block_count (reader_disk reader)) place.part.block octets × IsFit place octets key stamp
  place_fit key stamp point = represents_fit (device.known seen) (device.block_count (reader_disk reader)) represents_all.blocks represents_all.known all place represents_all.represents_all key stamp point

  pub represents_all_on : (key stamp : ℕ) (next : Place) → IsPoint (range_of place.bounds) key stamp → device.known seen' ≡ device.known seen → reader_disk reader' ≡ reader_disk reader
      → ((octets : List ℕ) → IsKnown (device.known seen) (device.block_count (reader_disk reader)) place.part.block octets → IsFit place octets key stamp → LeadsTo place octets key stamp next)
      → ((octets : List ℕ) → IsKnown (device.known seen) (device.block_count (reader_disk reader)) place.part.block octets → ReadsWell device reader' seen')
      → RepresentsKnown device reader' seen' all next
  represents_all_on key stamp next point same disk leads reads =
      let fit = place_fit key stamp point in
      record {
        well = reads fit.0 fit.1;
        blocks = represents_all.blocks;
        known = subst (λ (d : O). AreKnown (device.known seen') (device.block_count d) represents_all.blocks) (sym disk)
            (subst (λ (f : ℕ → Option (List ℕ)). AreKnown f (device.block_count (reader_disk reader)) represents_all.blocks) (sym same) represents_all.known);
        represents_all = next_represents (device.known seen) (device.block_count (reader_disk reader)) represents_all.blocks represents_all.known all place represents_all.represents_all fit.0 key stamp next fit.1 (leads fit.0 fit.1 fit.2);
      }

  pub has_leaf : (key stamp : ℕ) → IsPoint (range_of place.bounds) key stamp → device.known seen' ≡ device.known seen
      → ((octets : List ℕ) → IsKnown (device.known seen) (device.block_count (reader_disk reader)) place.part.block octets → IsFit place octets key stamp → (versions : List Version) × IsLeafFor place octets versions)
      → ((octets : List ℕ) → IsKnown (device.known seen) (device.block_count (reader_disk reader)) place.part.block octets → ReadsWell device reader' seen')
      → HasLeaf device reader' all place
  has_leaf key stamp point same leaf reads =
      let fit = place_fit key stamp point in
      let for = leaf fit.0 fit.1 fit.2 in
      record {
        octets = fit.0;
        only = only_kept device reader reader' seen seen' place.part.block fit.0 (reads fit.0 fit.1) same fit.1;
        versions = for.0;
        leaf = for.1;
        shows = leaf_shows (device.known seen) (device.block_count (reader_disk reader)) represents_all.blocks represents_all.known all place represents_all.represents_all fit.0 for.0 fit.1 for.1;
      }

-- what is known stays known
pub known_along : {O Pen Seen : Type 0} (device : Ghosts O Pen Seen) (first reader : ShelfReader O Pen Seen device) (before seen : Seen) → device.known seen ≡ device.known before → reader_disk reader ≡ reader_disk first
    → (n : ℕ) (octets : List ℕ) → IsKnown (device.known before) (device.block_count (reader_disk first)) n octets → IsKnown (device.known seen) (device.block_count (reader_disk reader)) n octets
known_along {O} device first reader before seen same disk n octets is = record { inside = subst (λ (d : O). n < device.block_count d) (sym disk) is.inside; at = ap (λ (f : ℕ → Option (List ℕ)). f n) same ∙ is.at }

-- what is seen stays honest, from the first state on
pub honest_on : {O Seen : Type 0} (H : O → Seen → Type 0) (first disk : O) (s t u : Seen) → disk ≡ first → (H first s ↔ H first t) → (H disk t ↔ H disk u) → (H first s ↔ H first u)
honest_on H first disk s t u same before step = (
  λ h. subst (λ d. H d u) same (step.0 (subst (λ d. H d t) (sym same) (before.0 h))),
  λ h. before.1 (subst (λ d. H d t) same (step.1 (subst (λ d. H d u) (sym same) h))),
)
