use Rattle.std.proofs.Common.{◌≡◌, take}
use Rattle.disk_memory.proofs.erase.copies.Given as goal

abbrev pub invariant-loop-call : goal.invariant-loop-call
invariant-loop-call l = l.copies.items ≡ take l.call-index l.calls
