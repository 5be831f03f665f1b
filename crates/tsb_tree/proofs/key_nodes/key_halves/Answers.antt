use Rattle.std.proofs.Common.{◌≡◌, ◌+◌, ◌^◌, ◌<◌, ◌≤◌, Some, slice_get, length, take, drop, refl, sym, ◌∙◌, ap, arith}
use Rattle.std.proofs.lemmas.Option.{slice_get_read}
use Rattle.std.proofs.lemmas.List.{length-take-le, length-drop}
use Rattle.version_model.specs.declared.child.Child.{Child}
use Rattle.tsb_node.specs.declared.decoded_key_node.DecodedKeyNode.{DecodedKeyNode}
use Rattle.tsb_tree.specs.KeyNodes.{AreKeyHalves}
use Rattle.tsb_tree.proofs.KeySplit.{get-drop}
use Rattle.tsb_tree.proofs.KeyNodes.{wide_front, wide_back, mid_fits}
use Rattle.tsb_tree.proofs.key_nodes.key_halves.Goals as goal

pub returns : goal.returns
returns c =
    let node = c.args.node in
    let xs = node.children.items in
    let b = c.in_ok-beyond.beyond.items in
    let tail : b ≡ drop 169 xs = c.in_ok-beyond.ensures.tail in
    let items : c.split_off.new.self.items ≡ take 169 xs = c.in_ok-beyond.ensures.items in
    let front_long : length c.split_off.new.self.items ≡ 169 = ap length items ∙ length-take-le 169 xs (let h : 169 ≤ length xs = omega (arith, c.requires.many) in h) in
    let back_long : length b ≡ 170 = omega (arith, ap length tail, length-drop 169 xs, c.requires.many) in
    let mid : Child = c.index.result.now in
    let next : Child = c.index-2.result.now in
    let at_mid : slice_get xs 169 ≡ Some mid = sym (get-drop xs 169 0) ∙ ap (λ x. slice_get x 0) (sym tail) ∙ slice_get_read b (length b) 0 mid refl (let h : 0 < length b = omega (arith, back_long) in h) c.index.ensures in
    let at_next : slice_get xs 170 ≡ Some next = sym (get-drop xs 169 1) ∙ ap (λ x. slice_get x 1) (sym tail) ∙ slice_get_read b (length b) 1 next refl (let h : 1 < length b = omega (arith, back_long) in h) c.index-2.ensures in
    let first = c.bounds_between.ensures in
    let second = c.bounds_between-2.ensures in
    let front : DecodedKeyNode = record { level = node.level; bounds = c.bounds_between.result; children = c.split_off.new.self } in
    let back : DecodedKeyNode = record { level = node.level; bounds = c.bounds_between-2.result; children = c.in_ok-beyond.beyond } in
    let halves : AreKeyHalves node front back = record {
      place = 169;
      mid = mid;
      at = at_mid;
      some = omega arith;
      front_level = refl;
      front_low = first.low;
      front_high = first.high;
      front_children = items;
      front_few = omega (arith, front_long);
      back_level = refl;
      back_low = second.low;
      back_high = second.high;
      back_children = tail;
      back_few = omega (arith, back_long);
    } in
    let fits : mid.low + 1 < 256 ^ 40 = mid_fits xs 169 mid next c.requires.wide.rising at_mid at_next c.key_fits.ensures.fits in
    record {
      halves = halves;
      front = wide_front node front back c.requires.wide halves fits;
      back = wide_back node front back c.requires.wide halves;
    }
