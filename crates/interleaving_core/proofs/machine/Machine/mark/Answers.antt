use Rattle.std.proofs.Common.{◌<◌, length, refl, subst, inl, arith}
use Rattle.std.specs.List.{slice_set}
use Rattle.sequencer.proofs.api.Setting.{get_some}
use Rattle.interleaving_core.specs.declared.reply.Reply.TheVariants.{Marked, MarkBack}
use Rattle.interleaving_core.specs.declared.step.Step.TheVariants.{Mark}
use Rattle.interleaving_core.specs.World.{World}
use Rattle.interleaving_core.specs.Does.{Does}
use Rattle.interleaving_core.proofs.Machines.{world, marks, marks_back}
use Rattle.interleaving_core.proofs.machine.Machine.mark.Goals as goal

pub returns-then-not-raise : goal.returns-then-not-raise
returns-then-not-raise c =
    let m = c.self.inside in
    let lt : c.args.collector < length m.given.items = omega arith in
    let at = get_some m.given.items c.args.collector c.index_mut-given.result.now lt c.index_mut-given.ensures.value in
    record {
      does = subst (λ (x : World). Does x (Mark c.args.collector c.args.mark) MarkBack (world (slice_set m.given.items c.args.collector c.raise.new.self) m.whole m.some m.questions.items m.down)) c.self.view_is
          (inl (c.if-self.false, marks_back m.given.items m.whole m.some m.questions.items m.down c.args.collector c.index_mut-given.result.now c.raise.new.self at c.args.mark (c.if-not-raise.ensures.back refl)));
    }

pub returns : goal.returns
returns c =
    let m = c.self.inside in
    let lt : c.args.collector < length m.given.items = omega arith in
    let at = get_some m.given.items c.args.collector c.index_mut-given.result.now lt c.index_mut-given.ensures.value in
    record {
      does = subst (λ (x : World). Does x (Mark c.args.collector c.args.mark) Marked (world (slice_set m.given.items c.args.collector c.raise.new.self) m.whole m.some m.questions.items m.down)) c.self.view_is
          (inl (c.if-self.false, marks m.given.items m.whole m.some m.questions.items m.down c.args.collector c.index_mut-given.result.now c.raise.new.self at c.args.mark (c.if-not-raise.ensures.raised refl)));
    }
