use Rattle.std.proofs.Common.{◌<◌, length, subst, inl, arith}
use Rattle.std.specs.List.{slice_set}
use Rattle.sequencer.proofs.api.Setting.{get_some}
use Rattle.interleaving_core.specs.declared.reply.Reply.TheVariants.{Taken}
use Rattle.interleaving_core.specs.World.{World}
use Rattle.interleaving_core.specs.Does.{WhenUp, DoesAdmit}
use Rattle.interleaving_core.proofs.Machines.{world, admits}
use Rattle.interleaving_core.proofs.machine.Machine.admit.Goals as goal

pub returns : goal.returns
returns c =
    let m = c.self.inside in
    let lt : c.args.collector < length m.given.items = omega arith in
    let i = c.index_mut-given.result.now in
    let at = get_some m.given.items c.args.collector i lt c.index_mut-given.ensures.value in
    let after : World = world (slice_set m.given.items c.args.collector c.take_in.new.self) m.whole m.some m.questions.items m.down in
    record {
      does = subst (λ (x : World). WhenUp x (Taken c.in_ok-reported.reported) after (DoesAdmit x c.args.collector c.args.batch.now (Taken c.in_ok-reported.reported) after)) c.self.view_is
          (inl (c.if-self.false, admits m.given.items m.whole m.some m.questions.items m.down c.args.collector i c.take_in.new.self at c.args.batch.now c.in_ok-reported.reported c.in_ok-reported.ensures.taken c.in_ok-reported.ensures.reply));
      same = tt;
    }
