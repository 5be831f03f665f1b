use Rattle.std.proofs.Common.{arith, ◌≡◌, ◌∙◌, ◌<◌, ◌≤◌, ◌^◌, ℕ, length, drop, take, ap, sym, subst, refl}
use Rattle.std.specs.List.{AllByRecursion}
use Rattle.std.proofs.lemmas.List.{take_all}
use Rattle.tsb_node.specs.Scaling.{scaled}
use Rattle.tsb_node.specs.inner.Fresh.{StampFits}
use Rattle.tsb_node.specs.inner.Reading.{area}
use Rattle.tsb_node.specs.inner.Scanning.{IsWholeVersion}
use Rattle.tsb_node.proofs.Leaves.{leaf_represents}
use Rattle.tsb_node.proofs.Laying.{all_push}
use Rattle.tsb_node.proofs.Scanning.{scan_on, broken_none}
use Rattle.tsb_node.proofs.SplittingLaws.{next_version, take_version, after_none}
use Rattle.tsb_node.proofs.Nexting.{stamp_next}
use Rattle.tsb_node.proofs.MomentLaws.{all_get, all_fit}
use Rattle.tsb_node.proofs.leaf_reading.times_fit.Goals as goal

pub loop-init : goal.loop-init
loop-init c =
    let there : c.split_at-2.result.1.now ≡ area c.args.octets.now = c.split_at-2.ensures.back ∙ ap (drop 120) c.split_at.ensures.front in
    record { there = there ∙ after_none (area c.args.octets.now); fit = λ leaf is. tt }

pub returns-in_default : goal.returns-in_default
returns-in_default c = λ leaf is.
    absurd (broken_none leaf c.args.octets.now (record {
      place = c.loop.counter;
      below = omega (arith, c.loop-test.true, c.number2-count.ensures.number);
      broken = λ whole. c.in_default.ensures.none (subst IsWholeVersion (sym c.loop.invariant.there) whole);
    }) is)

pub returns-then-not-fits : goal.returns-then-not-fits
returns-then-not-fits c = λ leaf is.
    let few : c.loop.counter < length leaf.versions = omega (arith, (leaf_represents leaf c.args.octets.now is).count_is, c.loop-test.true, c.number2-count.ensures.number) in
    let n = next_version leaf c.args.octets.now c.loop.rest.now c.loop.counter is few c.loop.invariant.there in
    let stamp : c.stamp_at.result ≡ n.v.stamp = c.stamp_at.ensures.number ∙ stamp_next leaf c.loop.counter c.loop.rest.now n in (
      λ e. absurd cc,
      λ all. (let one = all_get (StampFits c.args.k) leaf.versions c.loop.counter n.v all n.is in
          absurd (cc (c.fits.ensures.1 (subst (λ (s : ℕ). scaled c.args.k s < 256 ^ 16) (sym stamp) one), c.if-not-fits.true))),
    )

pub loop-preserved : goal.loop-preserved
loop-preserved c =
    let found = c.in-Some.ensures.found in
    let rest = c.loop.rest.now in
    let octets = c.args.octets.now in
    let i = c.loop.counter in
    record {
      there = c.split_at-in-loop.ensures.back ∙ ap (λ (n : ℕ). drop n rest) found.0 ∙ scan_on i rest (area octets) c.loop.invariant.there;
      fit = λ leaf is.
          (let few : i < length leaf.versions = omega (arith, (leaf_represents leaf octets is).count_is, c.loop-test.true, c.number2-count.ensures.number) in
          let n = next_version leaf octets rest i is few c.loop.invariant.there in
          let stamp : c.stamp_at.result ≡ n.v.stamp = c.stamp_at.ensures.number ∙ stamp_next leaf i rest n in
          let one = subst (λ (s : ℕ). scaled c.args.k s < 256 ^ 16) stamp (c.fits.ensures.0 (cc c.if-not-fits.false)) in
          subst (AllByRecursion (StampFits c.args.k)) (sym (take_version leaf.versions i n.v n.is)) (all_push (StampFits c.args.k) (take i leaf.versions) n.v (c.loop.invariant.fit leaf is) one));
    }

pub returns : goal.returns
returns c = λ leaf is.
    let done : length leaf.versions ≤ c.loop.counter = omega (arith, (leaf_represents leaf c.args.octets.now is).count_is, c.loop-test.false, c.number2-count.ensures.number) in
    (λ e. subst (AllByRecursion (StampFits c.args.k)) (take_all c.loop.counter leaf.versions done) (c.loop.invariant.fit leaf is), λ all. refl)

pub returns-then-k-eq1 : goal.returns-then-k-eq1
returns-then-k-eq1 c = λ leaf is. (λ e. all_fit c.args.k leaf.bounds leaf.versions c.if-k-eq1.true is.valid.each, λ all. refl)
