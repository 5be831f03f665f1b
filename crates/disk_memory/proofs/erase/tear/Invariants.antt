use Rattle.std.proofs.Common.{◌≡◌, ◌++◌, take}
use Rattle.disk_memory.specs.inner.Replaying.{torn_calls}
use Rattle.disk_memory.proofs.erase.tear.Given as goal

abbrev pub invariant-loop-k : goal.invariant-loop-k
invariant-loop-k l = l.into.items ≡ l.fn.into.items ++ torn_calls l.choice (take l.k l.calls)
