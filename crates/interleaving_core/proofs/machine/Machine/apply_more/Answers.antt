use Rattle.std.proofs.Common.{◌≡◌, ◌∙◌, ◌<◌, ◌≤◌, ap, subst, arith}
use Rattle.interleaving_core.specs.Steps.{Applies, AppliesMore, NothingToApply}
use Rattle.interleaving_core.specs.World.{World, with_history}
use Rattle.interleaving_core.proofs.NextChanges.{all_push, all_more, stop_more, of_error}
use Rattle.interleaving_core.proofs.machine.Machine.apply_more.Goals as goal

pub returns-then-not-branch-clause-all : goal.returns-then-not-branch-clause-all
returns-then-not-branch-clause-all c =
    let now = c.more.invariant in
    let idle = c.in_ok-apply_one.ensures.idle c.if-not-branch.true in
    let le : c.more.counter ≤ c.args.more = omega (arith, c.more-test.true) in
    (now.0, stop_more c.more.counter c.args.more c.args.self.now.history now.0 le now.1 (subst (λ (w : World). NothingToApply w.history) now.2 idle.0), idle.1 ∙ now.2)

pub more-preserved : goal.more-preserved
more-preserved c =
    let now = c.more.invariant in
    let next = c.in_ok-apply_one.ensures.applied c.if-not-branch.false in
    (next.0, all_push c.more.counter c.args.self.now.history now.0 next.0 now.1 (subst (λ (w : World). Applies w.history next.0) now.2 next.1), next.2 ∙ ap (λ (w : World). with_history w next.0) now.2)

pub returns-in_err-apply_one-clause-less : goal.returns-in_err-apply_one-clause-less
returns-in_err-apply_one-clause-less c =
    let now = c.more.invariant in
    let lt : c.more.counter < c.args.more = omega (arith, c.more-test.true) in
    of_error c.from_residual.result (c.more.counter, lt, now.0, all_more c.more.counter c.args.self.now.history now.0 now.1, c.in_err-apply_one.ensures.same ∙ now.2)

pub returns-clause-all : goal.returns-clause-all
returns-clause-all c =
    let now = c.more.invariant in
    let all : c.more.counter ≡ c.args.more = omega (arith, c.more-test.false, c.more.auto.counter-end) in
    (now.0, subst (λ n. AppliesMore n c.args.self.now.history now.0) all (all_more c.more.counter c.args.self.now.history now.0 now.1), now.2)
