use Rattle.std.proofs.Common.{◌≡◌, ◌∙◌, ◌<◌, ◌^◌, ℕ, map, length, ap, sym, subst, arith}
use Rattle.std.specs.List.{AllByRecursion}
use Rattle.std.specs.Vec.{with_items}
use Rattle.std.proofs.lemmas.List.{length-map, with_items_is}
use Rattle.tsb_node.specs.Nodes.{IsBounds}
use Rattle.tsb_node.specs.Scaling.{scaled, scaled_bounds}
use Rattle.tsb_node.specs.Columns.{ColumnInBlock, scaled_old_column, scaled_part}
use Rattle.tsb_node.specs.inner.PartReading.{AreParts}
use Rattle.tsb_node.specs.inner.InMoments.{IsOldColumnFrom}
use Rattle.tsb_node.proofs.Refusals.{refusal_map}
use Rattle.tsb_node.proofs.ColumnReading.{old_column_parts, old_column_some}
use Rattle.tsb_node.proofs.MomentColumns.{before_end, old_column_read_from, old_bounds_from}
use Rattle.tsb_node.proofs.decoded_column.read_old_column.Goals as goal

pub returns-then-not-is_of_kind : goal.returns-then-not-is_of_kind
returns-then-not-is_of_kind c = record { column = λ column from. absurd (cc (c.is_of_kind.ensures.1 (from.of.kind, from.of.level), c.if-not-is_of_kind.true)) }

pub returns-then-header-eq0 : goal.returns-then-header-eq0
returns-then-header-eq0 c = record { column = λ column from. old_column_some c.args.header.now c.args.entries.now from.as_written from.of c.if-header-eq0.true }

pub returns-in_default : goal.returns-in_default
returns-in_default c = record {
  column = λ column from. absurd (c.in_default.ensures.none (old_bounds_from c.args.header.now c.args.entries.now c.moments_of-k.result column from (c.moments_of-k.ensures.moments from.known)));
}

pub returns-in-Ok : goal.returns-in-Ok
returns-in-Ok c =
    let h = c.args.header.now in
    let es = c.args.entries.now in
    let k = c.moments_of-k.result in
    let known = c.requires.known in
    let unit = c.moments_of-k.ensures.moments known in
    let kind = c.is_of_kind.ensures.0 (cc c.if-not-is_of_kind.false) in
    let bounds = subst (λ (n : ℕ). IsBounds (scaled_bounds n h.bounds)) unit c.in-Some.ensures.fits in
    let from = old_column_read_from h es c.in-Ok.parts.items known c.requires.node kind.0 kind.1 c.if-header-eq0.false c.requires.ended c.in-Ok.ensures.parts bounds in
    let all = before_end k (scaled k h.bounds.start) h.bounds.end c.in-Ok.parts.items c.moments_of-k.ensures.some c.requires.ended c.in-Some.ensures.fits.order.end c.in-Ok.ensures.parts.each in
    let b = c.in-Some.ensures.found in
    let p = c.scale_parts.ensures (subst (AllByRecursion (λ x. scaled k x.start < 256 ^ 16)) (sym c.deref_mut.ensures.value) all) ∙ ap (map (scaled_part k)) c.deref_mut.ensures.value in
    let kept = with_items_is c.in-Ok.parts c.scale_parts.new.parts (omega (arith, ap length p, length-map c.in-Ok.parts.items (scaled_part k), c.in-Ok.parts.ok.0)) in
    let q = kept ∙ p in
    let written : ColumnInBlock = record { bounds = h.bounds; parts = c.in-Ok.parts.items } in
    let same : record { bounds = c.in-Some.bounds; parts = (with_items c.in-Ok.parts c.scale_parts.new.parts).items } ≡ scaled_old_column k written = λ i. record { bounds = b i; parts = q i } in
    record { column = subst (IsOldColumnFrom h es) (sym (same ∙ ap (λ (n : ℕ). scaled_old_column n written) unit)) from }

pub returns-in-Err : goal.returns-in-Err
returns-in-Err c =
    let h = c.args.header.now in
    let es = c.args.entries.now in
    let known = c.requires.known in
    let unit = c.moments_of-k.ensures.moments known in
    let kind = c.is_of_kind.ensures.0 (cc c.if-not-is_of_kind.false) in
    let bounds = subst (λ (n : ℕ). IsBounds (scaled_bounds n h.bounds)) unit c.in-Some.ensures.fits in
    record {
      column = refusal_map (AreParts h.bounds.start h.bounds.end h.count es) (IsOldColumnFrom h es)
          (λ ps are. (_, old_column_read_from h es ps known c.requires.node kind.0 kind.1 c.if-header-eq0.false c.requires.ended are bounds))
          (λ column from. (from.as_written.parts, old_column_parts h es from.as_written from.of))
          c.in-Err.fault c.in-Err.ensures.parts;
    }
