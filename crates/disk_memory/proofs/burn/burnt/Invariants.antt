use Rattle.std.proofs.Common.{◌≡◌, drop}
use Rattle.disk_memory.specs.Burning.{burnt_in}
use Rattle.disk_memory.proofs.burn.burnt.Given as goal

abbrev pub invariant-loop-burn : goal.invariant-loop-burn
invariant-loop-burn l = burnt_in l.number l.burns ≡ burnt_in l.number (drop l.burn-index l.burns)
