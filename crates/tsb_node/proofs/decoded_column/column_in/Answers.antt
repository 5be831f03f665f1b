use Rattle.std.proofs.Common.{◌≡◌, ◌∙◌, ◌<◌, ◌^◌, ◌-◌, ℕ, map, Some, length, ap, sym, subst, arith}
use Rattle.std.specs.List.{AllByRecursion}
use Rattle.std.specs.Vec.{with_items}
use Rattle.std.proofs.lemmas.List.{length-map, with_items_is}
use Rattle.tsb_node.specs.Nodes.{IsBounds}
use Rattle.tsb_node.specs.Scaling.{scaled, scaled_bounds}
use Rattle.tsb_node.specs.Columns.{ColumnInPage, scaled_column, scaled_part}
use Rattle.tsb_node.specs.inner.PartReading.{AreParts}
use Rattle.tsb_node.specs.inner.InMoments.{IsColumnFrom}
use Rattle.tsb_node.proofs.Refusals.{refusal_map}
use Rattle.tsb_node.proofs.ColumnReading.{column_current, column_read}
use Rattle.tsb_node.proofs.MomentColumns.{before_current, column_read_from, bounds_from, start_from}
use Rattle.tsb_node.proofs.decoded_column.column_in.Goals as goal

pub returns-in_default : goal.returns-in_default
returns-in_default c = record { column = λ column from. absurd (c.in_default.ensures.none _ _ (column_current c.args.header.now c.args.entries.now from.as_written from.of)) }

pub returns-in_default-bounds_in_moments : goal.returns-in_default-bounds_in_moments
returns-in_default-bounds_in_moments c = record {
  column = λ column from.
      absurd (c.in_default-bounds_in_moments.ensures.none (bounds_from c.args.header.now c.args.entries.now c.moments_of-k.result column from (c.moments_of-k.ensures.moments from.known)));
}

pub returns-in_default-in_moments : goal.returns-in_default-in_moments
returns-in_default-in_moments c = record {
  column = λ column from.
      absurd (c.in_default-in_moments.ensures.none (start_from c.args.header.now c.args.entries.now c.in-Some.front.now c.moments_of-k.result c.in-Some.current column c.in-Some.ensures.found from (c.moments_of-k.ensures.moments from.known)));
}

pub returns-in-Ok : goal.returns-in-Ok
returns-in-Ok c =
    let h = c.args.header.now in
    let es = c.args.entries.now in
    let k = c.moments_of-k.result in
    let known = c.requires.known in
    let unit = c.moments_of-k.ensures.moments known in
    let current = c.in-Some.current in
    let bounds = subst (λ (n : ℕ). IsBounds (scaled_bounds n h.bounds)) unit c.in-Some-bounds_in_moments.ensures.fits in
    let fits = subst (λ (n : ℕ). scaled n current.start < 256 ^ 16) unit c.in-Some-in_moments.ensures.fits in
    let from = column_read_from h es c.in-Some.front.now current c.in-Ok.parts.items known c.requires.node c.in-Some.ensures.found c.in-Ok.ensures.parts bounds fits in
    let all = before_current k current.start c.in-Ok.parts.items c.moments_of-k.ensures.some c.in-Some-in_moments.ensures.fits c.in-Ok.ensures.parts.each in
    let b = c.in-Some-bounds_in_moments.ensures.found in
    let p = c.scale_parts.ensures (subst (AllByRecursion (λ x. scaled k x.start < 256 ^ 16)) (sym c.deref_mut.ensures.value) all) ∙ ap (map (scaled_part k)) c.deref_mut.ensures.value in
    let kept = with_items_is c.in-Ok.parts c.scale_parts.new.parts (omega (arith, ap length p, length-map c.in-Ok.parts.items (scaled_part k), c.in-Ok.parts.ok.0)) in
    let q = kept ∙ p in
    let s = c.in-Some-in_moments.ensures.found in
    let written : ColumnInPage = record { bounds = h.bounds; parts = c.in-Ok.parts.items; current = current } in
    let same : record { bounds = c.in-Some-bounds_in_moments.bounds; parts = (with_items c.in-Ok.parts c.scale_parts.new.parts).items; current = record { start = c.in-Some-in_moments.start; page = current.page } } ≡ scaled_column k written = λ i. record { bounds = b i; parts = q i; current = record { start = s i; page = current.page } } in
    record { column = subst (IsColumnFrom h es) (sym (same ∙ ap (λ (n : ℕ). scaled_column n written) unit)) from }

pub returns-in-Err : goal.returns-in-Err
returns-in-Err c =
    let h = c.args.header.now in
    let es = c.args.entries.now in
    let front = c.in-Some.front.now in
    let current = c.in-Some.current in
    let known = c.requires.known in
    let unit = c.moments_of-k.ensures.moments known in
    let bounds = subst (λ (n : ℕ). IsBounds (scaled_bounds n h.bounds)) unit c.in-Some-bounds_in_moments.ensures.fits in
    let fits = subst (λ (n : ℕ). scaled n current.start < 256 ^ 16) unit c.in-Some-in_moments.ensures.fits in
    record {
      column = refusal_map (AreParts h.bounds.start (Some current.start) (h.count - 1) front) (IsColumnFrom h es)
          (λ ps are. (_, column_read_from h es front current ps known c.requires.node c.in-Some.ensures.found are bounds fits))
          (λ column from. (from.as_written.parts, column_read h es front current from.as_written c.in-Some.ensures.found from.of))
          c.in-Err.fault c.in-Err.ensures.parts;
    }
