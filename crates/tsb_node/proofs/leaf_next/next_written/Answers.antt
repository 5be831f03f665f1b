use Rattle.std.proofs.Common.{arith, ◌≡◌, Option, None, ℕ, suc, IfSome, ◌≤◌, subst, sym}
use Rattle.version_model.specs.Versions.{Answers}
use Rattle.version_model.specs.Looks.{IsLive, NoneWithin}
use Rattle.tsb_node.specs.inner.Nexts.{IsLeastOf, ReportsLive}
use Rattle.tsb_node.proofs.Nexting.{none_from, none_to, none_after, none_at_last}
use Rattle.tsb_node.proofs.leaf_next.next_written.Goals as goal

pub returns-in_default-least : goal.returns-in_default-least
returns-in_default-least c = record {
  next = λ leaf is.
      none_from leaf.versions c.args.stamp c.loop-least.from c.args.from (c.loop-least.invariant.dead leaf is)
      (subst (IsLeastOf leaf.versions c.args.stamp c.loop-least.from) c.in_default-least.is (c.in-Ok.ensures.least leaf is));
}

pub returns-then-live : goal.returns-then-live
returns-then-live c = record {
  next = λ leaf is.
      (let least = subst (IsLeastOf leaf.versions c.args.stamp c.loop-least.from) c.in-Some.is (c.in-Ok.ensures.least leaf is) in
      let live : IsLive leaf.versions c.args.stamp c.in-Some.key = subst (ReportsLive leaf.versions c.in-Some.key c.args.stamp) c.if-live.true (c.in-Ok-is_live.ensures.live leaf is) in
      (omega (arith, c.loop-least.invariant.onward, least.0), live, none_to leaf.versions c.args.stamp c.loop-least.from c.args.from c.in-Some.key (c.loop-least.invariant.dead leaf is) least));
}

pub returns-in_default-next : goal.returns-in_default-next
returns-in_default-next c = record {
  next = λ leaf is.
      (let least = subst (IsLeastOf leaf.versions c.args.stamp c.loop-least.from) c.in-Some.is (c.in-Ok.ensures.least leaf is) in
      let ended : Answers leaf.versions c.in-Some.key c.args.stamp None = subst (ReportsLive leaf.versions c.in-Some.key c.args.stamp) c.if-live.false (c.in-Ok-is_live.ensures.live leaf is) in
      none_at_last leaf c.args.octets.now c.args.stamp c.args.from c.in-Some.key is (none_after leaf.versions c.args.stamp c.loop-least.from c.args.from c.in-Some.key (c.loop-least.invariant.dead leaf is) least ended)
      (c.next.ensures.last.0 c.in_default-next.is));
}

pub loop-least-preserved : goal.loop-least-preserved
loop-least-preserved c =
    let rises = subst (λ (o : Option ℕ). IfSome o (λ n. n ≡ suc c.in-Some.key)) c.in-Some-next.is c.next.ensures.next in
    let up = subst (λ (o : Option ℕ). IfSome o (λ n. c.loop-least.from ≤ n)) c.in-Some.is c.in-Ok.ensures.onward in
    record {
      dead = λ leaf is.
          (let least = subst (IsLeastOf leaf.versions c.args.stamp c.loop-least.from) c.in-Some.is (c.in-Ok.ensures.least leaf is) in
          let ended : Answers leaf.versions c.in-Some.key c.args.stamp None = subst (ReportsLive leaf.versions c.in-Some.key c.args.stamp) c.if-live.false (c.in-Ok-is_live.ensures.live leaf is) in
          subst (NoneWithin leaf.versions c.args.stamp c.args.from) (sym rises) (none_after leaf.versions c.args.stamp c.loop-least.from c.args.from c.in-Some.key (c.loop-least.invariant.dead leaf is) least ended));
      onward = omega (arith, c.loop-least.invariant.onward, up, rises);
    }
