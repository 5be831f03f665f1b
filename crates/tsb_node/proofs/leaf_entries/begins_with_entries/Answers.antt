use Rattle.std.proofs.Common.{arith, ◌≡◌, ◌∙◌, ℕ, drop, ap, sym, subst}
use Rattle.tsb_node.specs.inner.Scanning.{IsWholeVersion}
use Rattle.tsb_node.proofs.Scanning.{scan_on}
use Rattle.tsb_node.proofs.SplittingLaws.{after_none}
use Rattle.tsb_node.proofs.HoldingLaws.{AreWhole, whole_of, whole_more, begins_of}
use Rattle.tsb_node.proofs.leaf_entries.begins_with_entries.Goals as goal

pub loop-init : goal.loop-init
loop-init c = record { there = after_none c.args.octets.now; whole = record { whole = λ k lt. absurd (omega arith) } }

pub loop-preserved : goal.loop-preserved
loop-preserved c =
    let found = c.in-Some.ensures.found in
    record {
      there = c.split_at.ensures.back ∙ ap (λ (n : ℕ). drop n c.loop.rest.now) found.0 ∙ scan_on c.loop.counter c.loop.rest.now c.args.octets.now c.loop.invariant.there;
      whole = whole_more c.loop.counter c.loop.rest.now c.args.octets.now c.loop.invariant.there found.1 c.loop.invariant.whole;
    }

pub returns-in_default : goal.returns-in_default
returns-in_default c = (
  λ e. absurd cc,
  λ is. absurd (c.in_default.ensures.none (subst IsWholeVersion (sym c.loop.invariant.there) ((whole_of c.args.count c.args.octets.now is).whole c.loop.counter c.loop-test.true))),
)

pub returns : goal.returns
returns c =
    let done : c.loop.counter ≡ c.args.count = omega (arith, c.loop-test.false, c.loop.auto.counter-end) in (
      λ e. begins_of c.args.count c.args.octets.now (subst (λ (n : ℕ). AreWhole n c.args.octets.now) done c.loop.invariant.whole),
      λ is. cc,
    )
