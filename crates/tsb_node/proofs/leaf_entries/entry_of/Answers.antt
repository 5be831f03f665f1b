use Rattle.std.proofs.Common.{◌≡◌, ◌∙◌, ◌<◌, ◌^◌, sym, ap, subst, ℕ, Vec, Global}
use Rattle.std.specs.Option.{option_map}
use Rattle.tsb_node.specs.Scaling.{scaled, scaled_version}
use Rattle.tsb_node.specs.inner.Reading.{version_in}
use Rattle.tsb_node.proofs.Scanning.{key_decoded, stamp_decoded, value_decoded, value_none, value_some}
use Rattle.tsb_node.proofs.Parting.{version_is}
use Rattle.tsb_node.proofs.leaf_entries.entry_of.Goals as goal
use Rattle.tsb_node.proofs.leaf_entries.entry_of.Goals.{then-bytes-eq0, else-bytes-eq0+in_ok-to_vec}

pub returns : goal.returns
returns c = λ fits.
    let bytes = c.args.bytes.now in
    let value : option_map (λ (v : Vec ℕ Global). v.items) c.if-bytes-eq0.value ≡ (version_in bytes).value =
    rw (value_decoded bytes) (elim c.if-bytes-eq0.branch [
      | then-bytes-eq0 w ↦ ap (option_map (λ (v : Vec ℕ Global). v.items)) w.value-is ∙ sym (value_none bytes w.if-bytes-eq0.true)
      | else-bytes-eq0+in_ok-to_vec w ↦ ap (option_map (λ (v : Vec ℕ Global). v.items)) w.value-is ∙ (let items = w.in_ok-to_vec.ensures.items_if_clones_equal (λ x y h. h) in rw (items, w.split_at-else-bytes-eq0.ensures.front, w.split_at.ensures.back, c.number2-size.ensures.number) (sym (value_some bytes w.if-bytes-eq0.false)))
    ]) in
    let stamp : c.stamp_at.result ≡ (version_in bytes).stamp = c.stamp_at.ensures.number ∙ sym (stamp_decoded bytes) in
    let moment = c.stamp_in_moments.ensures (subst (λ (s : ℕ). scaled c.args.k s < 256 ^ 16) (sym stamp) fits) ∙ ap (scaled c.args.k) stamp in
    version_is _ (scaled_version c.args.k (version_in bytes)) (c.key_at.ensures.number ∙ sym (key_decoded bytes)) moment value
