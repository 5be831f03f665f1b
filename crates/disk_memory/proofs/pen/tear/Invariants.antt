use Rattle.std.proofs.Common.{◌≡◌, ◌++◌, take}
use Rattle.disk_memory.specs.Burning.{torn_burnings}
use Rattle.disk_memory.proofs.pen.tear.Given as goal

abbrev pub invariant-loop-k : goal.invariant-loop-k
invariant-loop-k l = l.into.items ≡ l.fn.into.items ++ torn_burnings l.choice (take l.k l.burns)
