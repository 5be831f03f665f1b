use Rattle.std.proofs.Common.{◌≡◌, take}
use Rattle.disk_memory.proofs.burn.copies.Given as goal

abbrev pub invariant-loop-burn : goal.invariant-loop-burn
invariant-loop-burn l = l.copies.items ≡ take l.burn-index l.burns
