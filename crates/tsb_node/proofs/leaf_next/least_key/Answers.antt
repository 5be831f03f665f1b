use Rattle.std.proofs.Common.{arith, ◌≡◌, ◌∙◌, ◌<◌, ◌+◌, ℕ, Some, length, drop, ap, sym, subst}
use Rattle.std.proofs.lemmas.Bool.{both_ways}
use Rattle.version_model.specs.inner.Lower.{IsLower}
use Rattle.tsb_node.specs.Leaves.{LeafNode, BeginsAsWrittenLeaf}
use Rattle.tsb_node.specs.inner.Reading.{area}
use Rattle.tsb_node.specs.inner.Scanning.{IsWholeVersion}
use Rattle.tsb_node.proofs.Leaves.{leaf_represents}
use Rattle.tsb_node.proofs.Scanning.{scan_on, broken_none}
use Rattle.tsb_node.proofs.SplittingLaws.{next_version, after_none}
use Rattle.tsb_node.proofs.Nexting.{key_next, stamp_next, LeastSo, least_yes, least_no, least_end}
use Rattle.tsb_node.proofs.leaf_next.least_key.Goals as goal
use Rattle.tsb_node.proofs.leaf_next.least_key.Goals.{then-is_candidate, else-is_candidate}

pub loop-init : goal.loop-init
loop-init c =
    let there : c.split_at-2.result.1.now ≡ area c.args.octets.now = c.split_at-2.ensures.back ∙ ap (drop 120) c.split_at.ensures.front in
    record {
      there = there ∙ after_none (area c.args.octets.now);
      least = λ leaf is. record { from_on = tt; none_lower = λ k v lt. absurd (omega arith) };
      onward = tt;
    }

pub returns-in_default-clause-least : goal.returns-in_default-clause-least
returns-in_default-clause-least c = λ leaf is.
    absurd (broken_none leaf c.args.octets.now (record {
      place = c.loop.counter;
      below = omega (arith, c.loop-test.true, c.number2-count.ensures.number);
      broken = λ whole. c.in_default.ensures.none (subst IsWholeVersion (sym c.loop.invariant.there) whole);
    }) is)

pub returns-clause-least : goal.returns-clause-least
returns-clause-least c = λ leaf is.
    let represents_node = leaf_represents leaf c.args.octets.now is in
    let done : c.loop.counter ≡ length leaf.versions = omega (arith, c.loop-test.false, c.loop.auto.counter-end, c.number2-count.ensures.number, represents_node.count_is) in
    least_end leaf.versions c.args.stamp c.args.from c.loop.best (subst (λ (n : ℕ). LeastSo leaf.versions c.args.stamp c.args.from n c.loop.best) done (c.loop.invariant.least leaf is))

pub loop-preserved : goal.loop-preserved
loop-preserved c =
    let found = c.in-Some.ensures.found in
    let rest = c.loop.rest.now in
    let octets = c.args.octets.now in
    let s = c.args.stamp in
    let from = c.args.from in
    let few : (leaf : LeafNode) → BeginsAsWrittenLeaf leaf octets → c.loop.counter < length leaf.versions = λ leaf is. (let represents_node = leaf_represents leaf octets is in omega (arith, represents_node.count_is, c.loop-test.true, c.number2-count.ensures.number)) in
    record {
      there = c.split_at-in-loop.ensures.back ∙ ap (λ (n : ℕ). drop n rest) found.0 ∙ scan_on c.loop.counter rest (area octets) c.loop.invariant.there;
      least = λ leaf is.
          (let n = next_version leaf octets rest c.loop.counter is (few leaf is) c.loop.invariant.there in
          let key = key_next leaf c.loop.counter rest n in
          let stamp = stamp_next leaf c.loop.counter rest n in
          let before = c.loop.invariant.least leaf is in
          elim c.if-is_candidate.branch [
            | then-is_candidate w ↦ rw w.best-is (
                let candidate = c.is_candidate.ensures.0 w.if-is_candidate.true in
                let same : w.key_at.result ≡ n.v.key = w.key_at.ensures.number ∙ key in
                subst (λ (k : ℕ). LeastSo leaf.versions s from (c.loop.counter + 1) (Some k)) (sym same)
                (least_yes leaf.versions s from c.loop.counter n.v n.is c.loop.best (omega (arith, candidate.0, key)) (subst (IsLower c.loop.best) key candidate.1) before))
            | else-is_candidate w ↦ rw w.best-is (
                least_no leaf.versions s from c.loop.counter n.v n.is c.loop.best
                (λ above by lower. absurd (both_ways _ w.if-is_candidate.false (c.is_candidate.ensures.1 (omega (arith, above, key), subst (IsLower c.loop.best) (sym key) lower, omega (arith, by, stamp))))) before)
          ]);
      onward = elim c.if-is_candidate.branch [
        | then-is_candidate w ↦ rw w.best-is (
            let candidate = c.is_candidate.ensures.0 w.if-is_candidate.true in
            omega (arith, candidate.0, w.key_at.ensures.number))
        | else-is_candidate w ↦ rw w.best-is c.loop.invariant.onward
      ];
    }
