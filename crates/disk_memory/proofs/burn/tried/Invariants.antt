use Rattle.std.proofs.Common.{◌≡◌, drop}
use Rattle.disk_memory.specs.Burning.{tried_block_in}
use Rattle.disk_memory.proofs.burn.tried.Given as goal

abbrev pub invariant-loop-burn : goal.invariant-loop-burn
invariant-loop-burn l = tried_block_in l.number l.burns ≡ tried_block_in l.number (drop l.burn-index l.burns)
