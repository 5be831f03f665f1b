-- A part stands on: with more blocks, with later versions, and cut to fewer keys.
use Rattle.std.proofs.Common.{◌≡◌, ℕ, suc, ◌<◌, ◌≤◌, inl, List, Option, slice_get, refl, sym, ◌∙◌, ap, arith}
use Rattle.version_model.specs.declared.part.Part.{Part}
use Rattle.version_model.specs.Versions.{Version, Adds}
use Rattle.version_model.specs.Ranges.{Range}
use Rattle.version_model.specs.Blocks.{BlockNode, PartRepresents, by_leaf, by_parts, range_at, start_or, Grows}
use Rattle.version_model.proofs.api.Shown.{LeafRepresents-cut, LeafRepresents-outside}

pub PartRepresents-grows : (old new : ℕ → Option BlockNode) (all : List Version) → Grows old new → (r : Range) (part : Part) → PartRepresents old all r part → PartRepresents new all r part
PartRepresents-grows old new all grows _ _ (by_leaf r part wide versions kind at covers shows) = by_leaf r part wide versions kind (grows part.block _ at) covers shows
PartRepresents-grows old new all grows _ _ (by_parts r part wide parts kind at covers are_parts stand) = by_parts r part wide parts kind (grows part.block _ at) covers are_parts (λ s inner is. PartRepresents-grows old new all grows s inner (stand s inner is))

-- a version that is later than the part's end changes nothing in it
pub PartRepresents-later : (old : ℕ → Option BlockNode) (all new : List Version) (v : Version) → Adds all v new → (r : Range) (part : Part) → r.start < r.end → r.end ≤ v.stamp → PartRepresents old all r part → PartRepresents old new r part
PartRepresents-later old all new v adds _ _ nonempty later (by_leaf r part wide versions kind at covers shows) = by_leaf r part wide versions kind at covers (LeafRepresents-outside all new r versions v adds (let h : r.start < v.stamp = omega arith in inl h) (λ _. later) shows)
PartRepresents-later old all new v adds _ _ nonempty later (by_parts r part wide parts kind at covers are_parts stand) = by_parts r part wide parts kind at covers are_parts
    (λ s inner is. (let h = are_parts.inside s inner is in PartRepresents-later old all new v adds s inner h.0 (omega arith) (stand s inner is)))

-- a part is cut to fewer keys
pub PartRepresents-cut : (old : ℕ → Option BlockNode) (all : List Version) (r s : Range) (part : Part) → r.low ≤ s.low → s.high ≤ r.high → s.start ≡ r.start → s.end ≡ r.end → PartRepresents old all r part → PartRepresents old all s part
PartRepresents-cut old all _ s _ low high start end (by_leaf r part wide versions kind at covers shows) =
    by_leaf s part wide versions kind at
    (record { low = omega (arith, covers.low); high = omega (arith, covers.high); start = omega (arith, covers.start); end = omega (arith, covers.end) })
    (LeafRepresents-cut all r s versions low high start (let h : s.end ≤ r.end = omega arith in h) shows)
PartRepresents-cut old all _ s _ low high start end (by_parts r part wide parts kind at covers are_parts stand) =
    let same_end : (i : ℕ) → start_or s.end (slice_get parts (suc i)) ≡ start_or r.end (slice_get parts (suc i)) = λ i. ap (λ e. start_or e (slice_get parts (suc i))) end in
    by_parts s part wide parts kind at
    (record { low = omega (arith, covers.low); high = omega (arith, covers.high); start = omega (arith, covers.start); end = omega (arith, covers.end) })
    (record {
      first = are_parts.first;
      at_first = are_parts.at_first;
      from_start = omega (arith, are_parts.from_start);
      lower = are_parts.lower;
      inside = λ t inner is. (let h = are_parts.inside (range_at r parts is.place inner) inner (record { place = is.place; at = is.at; range = refl }) in (
        omega (arith, h.0, same_end is.place, ap (λ (x : Range). x.start) is.range, ap (λ (x : Range). x.end) is.range),
        omega (arith, h.1, same_end is.place, ap (λ (x : Range). x.end) is.range),
      ));
    })
    (λ t inner is. PartRepresents-cut old all (range_at r parts is.place inner) t inner
    (omega (arith, ap (λ (x : Range). x.low) is.range))
    (omega (arith, ap (λ (x : Range). x.high) is.range))
    (sym (ap (λ (x : Range). x.start) is.range))
    (sym (ap (λ (x : Range). x.end) is.range) ∙ same_end is.place)
    (stand (range_at r parts is.place inner) inner (record { place = is.place; at = is.at; range = refl })))
