use Rattle.std.proofs.Common.{ℕ, sym, subst}
use Rattle.version_model.specs.Versions.{AsOf}
use Rattle.tsb_node.specs.Scaling.{scaled_version}
use Rattle.tsb_node.specs.Finding.{version_found}
use Rattle.tsb_node.specs.Leaves.{LeafNode, IsVersionOf}
use Rattle.tsb_node.proofs.MomentLaws.{known_at, known_leaf, leaf_is, all_get, asof_up, asof_down}
use Rattle.tsb_node.proofs.leaf.find.Goals as goal

pub returns-in_default : goal.returns-in_default
returns-in_default c = record {
  found = λ leaf is v holds.
      (let unit = c.moments_of-k.ensures.moments (known_at _ _ (known_leaf leaf c.args.octets.now is) is.moments.known) in
      let there = subst (λ (l : LeafNode). AsOf l.versions c.args.key c.args.stamp v) (leaf_is leaf c.args.octets.now c.moments_of-k.result is unit) holds in
      let d = asof_down c.moments_of-k.result c.args.key c.args.stamp c.floor_stamp.result is.as_written.versions v c.moments_of-k.ensures.some c.floor_stamp.ensures there in
      let none = rw c.in_default.is at (c.in_ok-found.ensures.found is.as_written is.begins) in
      none d.0 d.2);
}

pub returns : goal.returns
returns c = record {
  found = λ leaf is.
      (let k = c.moments_of-k.result in
      let unit = c.moments_of-k.ensures.moments (known_at _ _ (known_leaf leaf c.args.octets.now is) is.moments.known) in
      let holds = rw c.in-Some.is at (c.in_ok-found.ensures.found is.as_written is.begins) in
      let up = asof_up k c.args.key c.args.stamp c.floor_stamp.result is.as_written.versions (version_found c.args.key c.in-Some.found) c.moments_of-k.ensures.some c.floor_stamp.ensures holds in
      let there = subst (λ (l : LeafNode). AsOf l.versions c.args.key c.args.stamp (scaled_version k (version_found c.args.key c.in-Some.found))) (sym (leaf_is leaf c.args.octets.now k is unit)) up in
      let fits = (all_get (IsVersionOf leaf.bounds) leaf.versions there.has.place (scaled_version k (version_found c.args.key c.in-Some.found)) is.valid.each there.has.is).stamp in
      subst (λ (n : ℕ). AsOf leaf.versions c.args.key c.args.stamp (record { key = c.args.key; stamp = n; value = c.in-Some.found.value })) (sym (c.stamp_in_moments.ensures fits)) there);
}
