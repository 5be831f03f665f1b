use Rattle.std.proofs.Common.{subst, arith, ◌≡◌, length}
use Rattle.std.proofs.lemmas.Bool.{both_ways}
use Rattle.version_model.specs.Entries.{versions_of, version_of}
use Rattle.version_model.proofs.api.Least.{LeastBelow, LeastBelow-yes, LeastBelow-no, LeastBelow-end}
use Rattle.version_model.proofs.Orders.{ge_yes, ge_no}
use Rattle.version_model.proofs.Entries.{read_at, length-versions}
use Rattle.version_model.proofs.finding.least_live.Goals as goal
use Rattle.version_model.proofs.finding.least_live.Goals.{then-ge+then-is_lower+then-is_live, else-ge, else-ge-via-then-ge+then-is_lower+else-is_live, else-ge-via-then-ge+else-is_lower, else-ge-via-else-ge}

pub loop-entry-preserved : goal.loop-entry-preserved
loop-entry-preserved c =
    let vs = versions_of c.args.entries.now in
    let e = c.entry-item.result in
    let n = c.loop-entry.entry-index in
    let at = read_at c.args.entries.now n e (omega arith) c.entry-item.is in
    elim c.if-ge.branch [
      | then-ge+then-is_lower+then-is_live w ↦ rw w.best-is (LeastBelow-yes vs c.args.stamp c.args.from n (version_of e) at c.loop-entry.best (ge_yes c.ge.result e.key c.args.from c.ge.ensures w.if-ge.true) (w.is_lower.ensures.0 w.if-is_lower.true) (w.is_live.ensures.live w.if-is_live.true) c.loop-entry.invariant)
      | else-ge w ↦ rw w.best-is (LeastBelow-no vs c.args.stamp c.args.from n (version_of e) at c.loop-entry.best
          (λ above lower. elim w.else-ge.branch [
            | else-ge-via-then-ge+then-is_lower+else-is_live x ↦ x.is_live.ensures.dead x.if-is_live.false
            | else-ge-via-then-ge+else-is_lower x ↦ absurd (both_ways _ x.if-is_lower.false (x.is_lower.ensures.1 lower))
            | else-ge-via-else-ge x ↦ absurd (omega (arith, above, ge_no c.ge.result e.key c.args.from c.ge.ensures x.if-ge.false))
          ]) c.loop-entry.invariant)
    ]

pub returns : goal.returns
returns c =
    let vs = versions_of c.args.entries.now in
    let end : c.loop-entry.entry-index ≡ length vs = omega (arith, length-versions c.args.entries.now) in
    LeastBelow-end vs c.args.stamp c.args.from c.loop-entry.best (subst (λ n. LeastBelow vs c.args.stamp c.args.from n c.loop-entry.best) end c.loop-entry.invariant)
