use Rattle.std.proofs.Common.{arith, ◌≡◌, ◌∙◌, ◌<◌, ◌+◌, ℕ, List, length, take, drop, ap, sym, subst, true, false}
use Rattle.std.proofs.lemmas.List.{length-drop, length-take}
use Rattle.tsb_node.specs.Leaves.{LeafNode, BeginsAsLeaf, entry, value_encoded}
use Rattle.tsb_node.specs.inner.Reading.{area}
use Rattle.tsb_node.specs.inner.Scanning.{IsWholeVersion}
use Rattle.tsb_node.specs.inner.Laying.{laid}
use Rattle.tsb_node.specs.inner.Sides.{located_within}
use Rattle.version_model.specs.Versions.{Version}
use Rattle.tsb_node.proofs.Entries.{entry-size}
use Rattle.tsb_node.proofs.MomentLaws.{known_at, known_leaf}
use Rattle.tsb_node.proofs.MomentEntries.{leaf_count, next_in_moments}
use Rattle.tsb_node.proofs.Laying.{laid_is}
use Rattle.tsb_node.proofs.Scanning.{scan_on, broken_none}
use Rattle.tsb_node.proofs.SplittingLaws.{key_of_entry, copied_start, copied_skip, copied_more, copied_end, after_none}
use Rattle.tsb_node.proofs.leaf_splitting.copy_within.Goals as goal
use Rattle.tsb_node.proofs.leaf_splitting.copy_within.Goals.{then-is_within, else-is_within}

pub loop-init : goal.loop-init
loop-init g c =
    let there : c.split_at-2.result.1.now ≡ area c.args.octets.now = c.split_at-2.ensures.back ∙ ap (drop 120) c.split_at.ensures.front in
    let size : length (area c.args.octets.now) ≡ 16232 = omega (arith, length-drop 120 (take 16352 c.args.octets.now), length-take 16352 c.args.octets.now, c.requires.size) in (
      omega (arith, ap length there, size),
      omega arith,
      omega arith,
      there ∙ after_none (area c.args.octets.now),
      λ leaf is. copied_start leaf c.args.bounds.now c.start.new.sheet c.start.ensures,
    )

pub returns-in_default : goal.returns-in_default
returns-in_default g c = record {
  side = λ leaf is.
      absurd (broken_none is.as_written c.args.octets.now (record {
        place = c.loop.counter;
        below = omega (arith, c.loop-test.true, c.number2-count.ensures.number);
        broken = λ whole. c.in_default.ensures.none (subst IsWholeVersion (sym c.loop.invariant.3) whole);
      }) is.begins);
}

pub loop-preserved : goal.loop-preserved
loop-preserved g c =
    let found = c.in-Some.ensures.found in
    let rest = c.loop.rest.now in
    let octets = c.args.octets.now in
    let b = c.args.bounds.now in
    let long = length-drop c.in-Some.size rest in
    let back = ap length c.split_at-in-loop.ensures.back in
    let next = c.split_at-in-loop.ensures.back ∙ ap (λ (n : ℕ). drop n rest) found.0 ∙ scan_on c.loop.counter rest (area octets) c.loop.invariant.3 in
    let few : (leaf : LeafNode) → BeginsAsLeaf leaf octets → c.loop.counter < length leaf.versions = λ leaf is. omega (arith, leaf_count leaf octets is, c.loop-test.true, c.number2-count.ensures.number) in
    elim c.if-is_within.branch [
      | then-is_within w ↦ (
        omega (arith, w.at-is, back, long, found.0, found.1, c.loop.invariant.0),
        omega (arith, w.at-is, c.loop.invariant.1),
        omega (arith, w.kept-is, c.loop.invariant.2),
        next,
        λ leaf is. (
            let same = c.moments_of-k.ensures.moments (known_at _ _ (known_leaf leaf octets is) is.moments.known) in
            let n = next_in_moments leaf octets rest c.loop.counter c.moments_of-k.result is same (few leaf is) c.loop.invariant.3 in
            let here : c.split_at-in-loop.result.0.now ≡ entry n.next.v = c.split_at-in-loop.ensures.front ∙ ap (λ (k : ℕ). take k rest) found.0 ∙ n.next.front in
            let key = c.key_at.ensures.number ∙ key_of_entry n.as_written.bounds n.next.v c.split_at-in-loop.result.0.now n.next.valid here ∙ sym (ap (λ (x : Version). x.key) n.scaled_is) in
            let within : located_within b n.v.key ≡ true = ap (located_within b) (sym key) ∙ sym c.is_within.ensures ∙ w.if-is_within.true in
            let size : c.in-Some.size ≡ length (entry n.next.v) = sym (ap length (c.split_at-in-loop.ensures.front) ∙ (let e : length (take c.in-Some.size rest) ≡ c.in-Some.size = omega (arith, length-take c.in-Some.size rest, found.0, found.1) in e)) ∙ ap length here in
            let long : length (entry n.v) ≡ length (entry n.next.v) = entry-size n.v ∙ ap (λ (x : Version). 59 + length (value_encoded x.value)) n.scaled_is ∙ sym (entry-size n.next.v) in
            let put = w.put_scaled.ensures n.as_written.bounds n.next.v n.next.valid here (omega (arith, n.valid.stamp, ap (λ (x : Version). x.stamp) n.scaled_is)) ∙ ap (λ (x : Version). laid c.loop.at (entry x) c.loop.fresh) (sym n.scaled_is) in
            rw (w.fresh-is, w.at-is, w.kept-is, put, size ∙ sym long)
            (copied_more leaf b c.loop.counter c.loop.at c.loop.kept c.loop.fresh n.v is.valid n.is within (omega (arith, size, long, found.0, found.1, c.loop.invariant.0)) (c.loop.invariant.4 leaf is))
            ),
      )
      | else-is_within w ↦ (
        omega (arith, w.at-is, back, long, found.0, found.1, c.loop.invariant.0),
        omega (arith, w.at-is, c.loop.invariant.1),
        omega (arith, w.kept-is, c.loop.invariant.2),
        next,
        λ leaf is. (
            let same = c.moments_of-k.ensures.moments (known_at _ _ (known_leaf leaf octets is) is.moments.known) in
            let n = next_in_moments leaf octets rest c.loop.counter c.moments_of-k.result is same (few leaf is) c.loop.invariant.3 in
            let here : c.split_at-in-loop.result.0.now ≡ entry n.next.v = c.split_at-in-loop.ensures.front ∙ ap (λ (k : ℕ). take k rest) found.0 ∙ n.next.front in
            let key = c.key_at.ensures.number ∙ key_of_entry n.as_written.bounds n.next.v c.split_at-in-loop.result.0.now n.next.valid here ∙ sym (ap (λ (x : Version). x.key) n.scaled_is) in
            let out : located_within b n.v.key ≡ false = ap (located_within b) (sym key) ∙ sym c.is_within.ensures ∙ w.if-is_within.false in
            rw (w.fresh-is, w.at-is, w.kept-is) (copied_skip leaf b c.loop.counter c.loop.at c.loop.kept c.loop.fresh n.v n.is out (c.loop.invariant.4 leaf is))
            ),
      )
    ]

pub returns : goal.returns
returns g c =
    let one = laid_is 4 c.two_octets.result c.loop.fresh c.put.new.self c.put.ensures ∙ ap (λ (t : List ℕ). laid 4 t c.loop.fresh) c.two_octets.ensures in
    let two = laid_is 6 c.two_octets-2.result c.put.new.self c.put-2.new.self c.put-2.ensures ∙ ap (λ (t : List ℕ). laid 6 t c.put.new.self) c.two_octets-2.ensures in
    record {
      side = λ leaf is.
          let done : c.loop.counter ≡ length leaf.versions = omega (arith, c.loop-test.false, c.loop.auto.counter-end, c.number2-count.ensures.number, leaf_count leaf c.args.octets.now is) in
          rw (two, one) (copied_end leaf c.args.bounds.now c.loop.counter c.loop.at c.loop.kept _ c.loop.fresh c.bounds_fit.ensures.fits c.requires.current done (omega (arith, c.loop.invariant.0)) (omega (arith, c.loop.invariant.1)) (c.loop.invariant.4 leaf is));
    }
