use Rattle.std.proofs.Common.{sym, subst}
use Rattle.version_model.specs.Looks.{IsLeastLive}
use Rattle.tsb_node.specs.Leaves.{LeafNode}
use Rattle.tsb_node.proofs.MomentLaws.{known_at, known_leaf, leaf_is, match_map, least_up}
use Rattle.tsb_node.proofs.leaf_next.next.Goals as goal

pub returns : goal.returns
returns c = record {
  next = λ leaf is.
      (let k = c.moments_of-k.result in
      let unit = c.moments_of-k.ensures.moments (known_at _ _ (known_leaf leaf c.args.octets.now is) is.moments.known) in
      match_map c.next_written.result _ _ (λ o live. subst (λ (l : LeafNode). IsLeastLive l.versions c.args.stamp c.args.from o) (sym (leaf_is leaf c.args.octets.now k is unit))
      (least_up k c.args.stamp c.floor_stamp.result c.args.from is.as_written.versions o c.moments_of-k.ensures.some c.floor_stamp.ensures live))
      (c.next_written.ensures.next is.as_written is.begins));
}
