use Rattle.std.proofs.Common.{◌∙◌, sym, ap, arith}
use Rattle.interleaving_core.specs.World.{asked}
use Rattle.interleaving_core.proofs.Machines.{ended_more}
use Rattle.interleaving_core.proofs.machine.Machine.crash.Goals as goal

pub loop-question-preserved : goal.loop-question-preserved
loop-question-preserved c = ended_more c.deref_mut-question-items.result.now c.loop-question.question-items c.loop-question.question-index c.question-item.result c.query.result c.loop-question.invariant (omega arith) c.question-item.is (c.query.ensures.query ∙ ap asked (sym c.question-item.is))
