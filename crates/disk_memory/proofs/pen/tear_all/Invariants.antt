use Rattle.std.proofs.Common.{◌≡◌, ◌++◌, Some, map, take}
use Rattle.disk_memory.specs.Burning.{torn_burning}
use Rattle.disk_memory.proofs.pen.tear_all.Given as goal

abbrev pub invariant-loop-burn : goal.invariant-loop-burn
invariant-loop-burn l = l.into.items ≡ l.fn.into.items ++ map (torn_burning (Some l.torn)) (take l.burn-index l.burns)
