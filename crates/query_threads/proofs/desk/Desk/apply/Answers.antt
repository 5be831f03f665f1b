use Rattle.std.proofs.Common.{sym, ◌∙◌, subst}
use Rattle.std.proofs.lemmas.Result.{IfErr-weaker}
use Rattle.std.specs.Prelude.{IsSome}
use Rattle.board.specs.Past.{Past, GoesOnAs}
use Rattle.board.specs.Views.{View, IsFrontOf}
use Rattle.query_threads.specs.Steps.{DoesApply}
use Rattle.query_threads.proofs.Seen.{begins_then, sees_step}
use Rattle.query_threads.proofs.Reporting.{comes_of}
use Rattle.query_threads.proofs.desk.Desk.apply.Goals as goal

pub returns : goal.returns
returns g c =
    let w = c.self.inside.writer in
    let front = subst (λ (v : View). IsFrontOf v.past c.args.pass.now) (sym (c.self.view_is ∙ c.greet.ensures.same)) c.greet.ensures.front in
    let archive = c.self.inside.archive in
    let then = c.apply_step-reported.new.self in
    let before : IsSome g.N.OnDisk.disk → (p : Past) × g.A.Store.represents archive p × IsFrontOf p c.args.pass.now × GoesOnAs p c.greet-2.new.pass.past = λ named. (w.past, (c.self.invariant.1 named).0, front, subst (λ (q : Past). GoesOnAs w.past q) (sym c.greet-2.ensures.past) c.follow.ensures.goes_on) in
    let after = λ (named : IsSome g.N.OnDisk.disk). subst (λ (q : Past). g.A.Store.represents then q) (sym c.greet-2.ensures.past) (c.follow.ensures.represented named) in
    record {
      begins = begins_then c.args.pass.now c.greet.new.pass c.greet-2.new.pass c.greet.ensures.begins c.greet-2.ensures.begins;
      sees = λ named. sees_step (DoesApply c.apply_step-reported.result) c.args.pass.now c.greet.new.pass c.greet-2.new.pass w c.follow.new.writer front
          c.greet.ensures.begins c.follow.ensures.goes_on (c.follow.ensures.fits named) c.greet-2.ensures.past c.greet-2.ensures.begins (c.greet-2.ensures.caught_up named);
      trouble = IfErr-weaker c.apply_step-reported.result _ _ (λ t. comes_of g.N.OnDisk.disk g.A.Store.disk_of g.A.Store.represents c.args.pass.now c.greet-2.new.pass archive then (λ named. (c.self.invariant.1 named).2) before after (λ a b. g.A.Store.reports a t b)) c.apply_step-reported.ensures.trouble;
    }
