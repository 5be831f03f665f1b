use Rattle.std.proofs.Common.{arith, ◌≡◌, ◌∙◌, ℕ, length, sym, subst, refl}
use Rattle.std.proofs.lemmas.Bool.{eqb-true, eq-eqb}
use Rattle.tsb_node.specs.inner.Checking.{IsAfter}
use Rattle.tsb_node.proofs.CheckingLaws.{Checked, check_start, check_on, check_end, entry_represents, stamp_represents, nothing_after}
use Rattle.tsb_node.proofs.leaf_reading.are_entries.Goals as goal

pub loop-init : goal.loop-init
loop-init c = check_start c.args.bounds.now c.args.bytes.now

pub returns-in_default : goal.returns-in_default
returns-in_default c = (
  λ e. absurd cc,
  λ are. absurd (c.in_default.ensures.none (entry_represents c.args.bounds.now c.args.count c.loop.counter c.args.bytes.now c.loop.rest.now are c.loop-test.true c.loop.invariant.at)),
)

pub returns-then-not-is_after : goal.returns-then-not-is_after
returns-then-not-is_after c = (
  λ e. absurd cc,
  λ are. (let after = stamp_represents c.args.bounds.now c.args.count c.loop.counter c.args.bytes.now c.loop.rest.now c.loop.last are c.loop-test.true c.loop.invariant in
      c.if-not-is_after.ensures.1 (subst (λ (s : ℕ). IsAfter s c.loop.last) (sym c.stamp_at-stamp.ensures.number) after)),
)

pub loop-preserved : goal.loop-preserved
loop-preserved c =
    let found = c.in-Some.ensures.found in
    let is = subst (λ (s : ℕ). IsAfter s c.loop.last) c.stamp_at-stamp.ensures.number (c.if-not-is_after.ensures.0 refl) in
    rw (c.split_at.ensures.back, found.0, c.stamp_at-stamp.ensures.number)
    (check_on c.args.bounds.now c.args.bytes.now c.loop.rest.now c.loop.counter c.loop.last c.loop.invariant found.1 is)

pub returns : goal.returns
returns c =
    let done : c.loop.counter ≡ c.args.count = omega (arith, c.loop-test.false, c.loop.auto.counter-end) in
    let checked = subst (λ (n : ℕ). Checked c.args.bounds.now c.args.bytes.now c.loop.rest.now n c.loop.last) done c.loop.invariant in (
      λ yes. check_end c.args.bounds.now c.args.bytes.now c.loop.rest.now c.args.count c.loop.last checked (eqb-true (length c.loop.rest.now) 0 (sym c.is_empty.ensures ∙ yes)),
      λ are. (let none = nothing_after c.args.bounds.now c.args.count c.args.bytes.now c.loop.rest.now are checked.at in c.is_empty.ensures ∙ eq-eqb (length c.loop.rest.now) 0 none),
    )
