use Rattle.std.proofs.Common.{◌∙◌, ℕ, ap, sym, subst}
use Rattle.std.specs.List.{AllByRecursion}
use Rattle.route_model.specs.Units.{moments_in}
use Rattle.route_model.proofs.api.Units.{some}
use Rattle.tsb_node.specs.Nodes.{IsBounds}
use Rattle.tsb_node.specs.Scaling.{scaled_bounds}
use Rattle.tsb_node.specs.inner.Fresh.{StampFits}
use Rattle.tsb_node.proofs.MomentLaws.{stamps_fit, leaf_scaled}
use Rattle.tsb_node.proofs.leaf_reading.leaf_in_moments.Goals as goal

pub returns-in_default : goal.returns-in_default
returns-in_default c = record {
  leaf = λ known leaf is same valid.
      (let unit = c.moments_of-k.ensures.moments known in
      let e = ap (λ (n : ℕ). scaled_bounds n c.args.bounds.now) unit ∙ ap (scaled_bounds (moments_in known.unit)) (sym same) in
      c.in_default.ensures.none (subst IsBounds (sym e) valid.bounds));
}

pub returns-then-not-times_fit : goal.returns-then-not-times_fit
returns-then-not-times_fit c = record {
  leaf = λ known leaf is same valid.
      (let unit = c.moments_of-k.ensures.moments known in
      let m = moments_in known.unit in
      let all = stamps_fit m (scaled_bounds m leaf.bounds) leaf.versions valid.each in
      let yes = (c.times_fit.ensures leaf is).1 (subst (λ (n : ℕ). AllByRecursion (StampFits n) leaf.versions) (sym unit) all) in
      absurd (cc (yes, c.if-not-times_fit.true)));
}

pub returns : goal.returns
returns c = record {
  leaf = λ known leaf is same.
      (let unit = c.moments_of-k.ensures.moments known in
      let m = moments_in known.unit in
      let e = ap (λ (n : ℕ). scaled_bounds n c.args.bounds.now) unit ∙ ap (scaled_bounds m) (sym same) in
      let all = subst (λ (n : ℕ). AllByRecursion (StampFits n) leaf.versions) unit ((c.times_fit.ensures leaf is).0 (cc c.if-not-times_fit.false)) in
      let fits = subst IsBounds e c.in-Some.ensures.fits in
      (c.in-Some.ensures.found ∙ e, leaf_scaled m leaf (some known.unit) is.valid fits all));
}
