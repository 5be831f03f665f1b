use Rattle.std.proofs.Common.{◌≡◌, length, take}
use Rattle.disk_models.specs.Octets.{octets}
use Rattle.disk_memory.specs.inner.Replaying.{replayed}
use Rattle.disk_memory.proofs.lay.replay.Given as goal

abbrev pub invariant-loop-call : goal.invariant-loop-call
invariant-loop-call l = l.into ≡ octets (replayed (take l.call-index l.call-items) (λ _. 0)) l.at (length l.fn.into)
