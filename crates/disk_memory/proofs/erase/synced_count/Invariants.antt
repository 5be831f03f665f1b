use Rattle.std.proofs.Common.{take}
use Rattle.disk_memory.specs.inner.Replaying.{SplitsAtSync}
use Rattle.disk_memory.proofs.erase.synced_count.Given as goal

abbrev pub invariant-loop-i : goal.invariant-loop-i
invariant-loop-i l = SplitsAtSync l.count (take l.i l.calls)
