use Rattle.std.proofs.Common.{◌≡◌, ◌∙◌, ap, subst}
use Rattle.std.specs.Option.{is_some}
use Rattle.version_model.specs.declared.bounds.Bounds.{Bounds}
use Rattle.tsb_node.specs.Leaves.{LeafNode}
use Rattle.tsb_node.specs.inner.Fresh.{IsFreshLeafPage}
use Rattle.tsb_node.specs.inner.Sides.{side_of}
use Rattle.tsb_node.proofs.ViewLaws.{side_whole}
use Rattle.tsb_node.proofs.MomentLaws.{match_map}
use Rattle.tsb_node.proofs.leaf_splitting.copy_whole.Goals as goal

pub returns-in_default : goal.returns-in_default
returns-in_default g c = record { whole = λ leaf is none. absurd (cc (c.in_default.ensures.leaf leaf is)) }

pub returns-then-is_some : goal.returns-then-is_some
returns-then-is_some g c = record {
  whole = λ leaf is none.
      (let same : c.in-Ok.bounds ≡ leaf.bounds = cc (c.in-Ok.ensures.leaf leaf is) in
      absurd (cc (c.is_some.ensures ∙ ap is_some (ap (λ (b : Bounds). b.end) same ∙ none), c.if-is_some.true)));
}

pub returns : goal.returns
returns g c = record {
  whole = λ leaf is none.
      (let same : c.in-Ok.bounds ≡ leaf.bounds = cc (c.in-Ok.ensures.leaf leaf is) in
      let whole = ap (side_of leaf) same ∙ side_whole leaf is.valid in
      match_map c.copy_within.result _ _ (λ u fresh. subst (λ (l : LeafNode). IsFreshLeafPage l c.copy_within.new.fresh) whole fresh) (c.copy_within.ensures.side leaf is));
}
