-- A column takes a version: into its leaf, with a time split, and with a key split.
use Rattle.std.proofs.Common.{◌≡◌, ℕ, ◌<◌, ◌≤◌, inl, inr, List, [], ◌∷◌, ◌++◌, Option, Some, refl, sym, ap, arith}
use Rattle.version_model.specs.declared.part.Part.{Part}
use Rattle.version_model.specs.declared.part.PartKind.TheVariants.{LeafBlock}
use Rattle.version_model.specs.Versions.{Version, Adds}
use Rattle.version_model.specs.Ranges.{Range, stamp_end}
use Rattle.version_model.specs.LeafVersions.{LeafRepresents, IsFrom}
use Rattle.version_model.specs.Blocks.{BlockNode, OldLeaf, IsPartOf, range_at, Grows}
use Rattle.version_model.specs.Pages.{Keys, PartsRepresent, past_range, current_range}
use Rattle.version_model.proofs.api.Shown.{LeafRepresents-cut, LeafRepresents-from, LeafRepresents-adds, LeafRepresents-outside}
use Rattle.version_model.proofs.api.PastKept.{PartRepresents-cut}
use Rattle.version_model.proofs.api.PastSplit.{PartsRepresent-pushed}

-- The leaf as it was goes into a block, and the leaf with the version, from its stamp on, stays.
module _ (old old' : ℕ → Option BlockNode) (next next' : ℕ) (all new : List Version) (v : Version) (keys : Keys) (start block : ℕ) (parts : List Part) (leaf leaf' newer : List Version)
    (grows : Grows old old') (new_block : next ≤ block) (in_next : block < next')
    (adds : Adds all v new) (adds' : Adds leaf v leaf') (forward : start < v.stamp) (in_time : v.stamp < stamp_end)
    (from : IsFrom leaf' v.stamp newer)
    (burnt : old' block ≡ Some (OldLeaf (record { low = keys.low; high = keys.high; start = start; end = v.stamp }) leaf))
    (shows : LeafRepresents all (current_range keys start) leaf)
    (past : PartsRepresent old next new keys start parts) where
  pub leaf_stays : LeafRepresents new (current_range keys v.stamp) newer
  leaf_stays = LeafRepresents-from new (current_range keys start) leaf' newer v.stamp (omega arith) in_time from (LeafRepresents-adds all new (current_range keys start) leaf leaf' v adds adds' (inl forward) shows)

  old_leaf : LeafRepresents new (record { low = keys.low; high = keys.high; start = start; end = v.stamp }) leaf
  old_leaf =
      let r : Range = record { low = keys.low; high = keys.high; start = start; end = v.stamp } in
      LeafRepresents-outside all new r leaf v adds (inl forward) (λ _. omega arith)
      (LeafRepresents-cut all (current_range keys start) r leaf (omega arith) (omega arith) refl (let h : v.stamp ≤ stamp_end = omega arith in h) shows)

  pub past_takes_leaf : PartsRepresent old' next' new keys v.stamp (parts ++ record { start = start; kind = LeafBlock; block = block } ∷ [])
  past_takes_leaf = PartsRepresent-pushed old old' next next' new keys start v.stamp block parts leaf grows forward new_block in_next burnt old_leaf past

-- a key split gives the past to each side
pub PartsRepresent-cut : (old : ℕ → Option BlockNode) (next : ℕ) (all : List Version) (keys side : Keys) (start : ℕ) (parts : List Part) → keys.low ≤ side.low → side.high ≤ keys.high → PartsRepresent old next all keys start parts → PartsRepresent old next all side start parts
PartsRepresent-cut old next all keys side start parts low high past =
    let was : (s : Range) (part : Part) (is : IsPartOf (past_range side start) parts s part) → IsPartOf (past_range keys start) parts (range_at (past_range keys start) parts is.place part) part = λ s part is. record { place = is.place; at = is.at; range = refl } in
    record {
      are_parts = elim past.are_parts [
        | inl none ↦ inl none
        | inr are ↦ inr (record {
          first = are.first;
          at_first = are.at_first;
          from_start = are.from_start;
          lower = are.lower;
          inside = λ s part is. (let h = are.inside _ part (was s part is) in
              (omega (arith, h.0, ap (λ (x : Range). x.start) is.range, ap (λ (x : Range). x.end) is.range), omega (arith, h.1, ap (λ (x : Range). x.end) is.range)));
        })
      ];
      stand = λ s part is. PartRepresents-cut old all (range_at (past_range keys start) parts is.place part) s part
          (omega (arith, ap (λ (x : Range). x.low) is.range)) (omega (arith, ap (λ (x : Range). x.high) is.range))
          (sym (ap (λ (x : Range). x.start) is.range)) (sym (ap (λ (x : Range). x.end) is.range))
          (past.stand _ part (was s part is));
    }
