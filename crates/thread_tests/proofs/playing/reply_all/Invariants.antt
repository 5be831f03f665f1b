use Rattle.std.proofs.Common.{take}
use Rattle.std.specs.Prelude.{IsSome}
use Rattle.thread_tests.specs.Works.{Follows}
use Rattle.thread_tests.proofs.playing.reply_all.Given as goal

abbrev pub invariant-loop-work : goal.invariant-loop-work
invariant-loop-work g l = IsSome g.N.OnDisk.disk → Follows (take l.work-index l.works) l.returned.items l.initial.pass l.pass
