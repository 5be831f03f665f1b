use Rattle.tsb_node.specs.inner.Sides.{side_of}
use Rattle.tsb_node.proofs.ViewLaws.{side_is}
use Rattle.tsb_node.proofs.WrittenNow.{leaf_now}
use Rattle.tsb_node.proofs.MomentLaws.{match_map}
use Rattle.tsb_node.proofs.leaf_splitting.copy_side.Goals as goal

pub returns : goal.returns
returns c = record {
  side = λ leaf is.
      match_map c.copy_within.result _ _ (λ u fresh. record {
        versions = (side_of leaf c.args.bounds.now).versions;
        side = side_is leaf c.args.bounds.now;
        page = leaf_now (side_of leaf c.args.bounds.now) c.copy_within.new.fresh fresh;
      }) (c.copy_within.ensures.side leaf is);
}
