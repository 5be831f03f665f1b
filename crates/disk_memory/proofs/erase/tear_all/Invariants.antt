use Rattle.std.proofs.Common.{◌≡◌, ◌++◌, Some, map, take}
use Rattle.disk_memory.specs.Replay.{torn_call}
use Rattle.disk_memory.proofs.erase.tear_all.Given as goal

abbrev pub invariant-loop-call : goal.invariant-loop-call
invariant-loop-call l = l.into.items ≡ l.fn.into.items ++ map (torn_call (Some l.torn)) (take l.call-index l.calls)
