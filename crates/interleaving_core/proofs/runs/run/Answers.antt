use Rattle.std.proofs.Common.{◌+◌, List, take, sym, subst, arith}
use Rattle.std.specs.List.{AllByRecursion}
use Rattle.interleaving_core.specs.declared.reply.Reply.{Reply}
use Rattle.interleaving_core.specs.declared.step.Step.{Step}
use Rattle.interleaving_core.specs.World.{World}
use Rattle.interleaving_core.specs.Does.{Runs, IsStep}
use Rattle.interleaving_core.proofs.Places.{all_more, runs_more}
use Rattle.interleaving_core.proofs.Promised.{promised}
use Rattle.interleaving_core.proofs.Settled.{take_all}
use Rattle.interleaving_core.proofs.runs.run.Goals as goal

pub loop-step-preserved : goal.loop-step-preserved
loop-step-preserved c = record {
  runs = subst (λ (rs : List Reply). Runs c.args.machine (take (c.loop-step.step-index + 1) c.args.steps.now) rs c.make.new.machine) (sym c.in_ok-push.ensures.items)
      (runs_more c.args.machine c.loop-step.machine c.make.new.machine c.args.steps.now c.loop-step.replies.items c.loop-step.step-index c.step-item.result c.in_ok-make.field-0 c.loop-step-test.true c.step-item.is c.loop-step.invariant.runs c.in_ok-make.ensures);
  valid = all_more IsStep c.args.steps.now c.loop-step.step-index c.step-item.result c.loop-step-test.true c.step-item.is c.read.ensures c.loop-step.invariant.valid;
}

pub returns : goal.returns
returns c =
    let all = take_all c.loop-step.step-index c.args.steps.now (omega (arith, c.loop-step-test.false)) in
    let run = subst (λ (l : List Step). Runs c.args.machine l c.loop-step.replies.items c.loop-step.machine) all c.loop-step.invariant.runs in
    let valid = subst (AllByRecursion IsStep) all c.loop-step.invariant.valid in
    record {
      runs = run;
      headline = λ collectors e. promised collectors c.args.steps.now c.loop-step.replies.items c.loop-step.machine valid (subst (λ (w : World). Runs w c.args.steps.now c.loop-step.replies.items c.loop-step.machine) e run);
    }
