use Rattle.std.proofs.Common.{◌≡◌, ◌∙◌, ◌<◌, ◌^◌, List, Some, length, slice_get, slice_set, ap, sym, subst, refl, arith}
use Rattle.std.proofs.lemmas.Option.{same_Some, slice_get_read}
use Rattle.version_model.specs.declared.part.Part.{Part}
use Rattle.tsb_node.specs.Columns.{scaled_part}
use Rattle.tsb_node.specs.Scaling.{scaled}
use Rattle.tsb_node.proofs.MomentLaws.{all_get, set_next, parts_same}
use Rattle.tsb_node.proofs.moments.scale_parts.Goals as goal

pub loop-part-preserved : goal.loop-part-preserved
loop-part-preserved c = λ all.
    let k = c.args.k in
    let old = c.args.parts.now in
    let now = c.loop-part.parts in
    let i = c.loop-part.part-index in
    let so = c.loop-part.invariant all in
    let lt : i < length now = omega (arith, c.loop-part-test.true, c.loop-part.auto.parts) in
    let lt' : i < length old = omega (arith, c.loop-part-test.true, c.loop-part.auto.parts) in
    let here : slice_get now i ≡ Some c.part-item.result = slice_get_read now (length now) i c.part-item.result refl lt c.part-item.is in
    let r = set_next (scaled_part k) old i lt' in
    let same : c.part-item.result ≡ r.0 = same_Some c.part-item.result r.0 (sym here ∙ ap (λ (l : List Part). slice_get l i) so ∙ r.1) in
    let fits = subst (λ (p : Part). scaled k p.start < 256 ^ 16) (sym same) (all_get (λ p. scaled k p.start < 256 ^ 16) old i r.0 all r.2) in
    ap (λ (l : List Part). slice_set l i c.part_in_moments.result) so ∙ r.3 c.part_in_moments.result (c.part_in_moments.ensures (subst (λ (p : Part). scaled k p.start < 256 ^ 16) c.part-item.is fits) ∙ ap (scaled_part k) (sym c.part-item.is ∙ same))

pub returns-then-k-eq1 : goal.returns-then-k-eq1
returns-then-k-eq1 c = λ all. sym (parts_same c.args.k c.args.parts.now c.if-k-eq1.true)
