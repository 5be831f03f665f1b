use Rattle.std.proofs.Common.{ap, ◌∙◌}
use Rattle.disk_memory.specs.Memory.{calls_of}
use Rattle.disk_memory.proofs.Replaying.{same_stays}
use Rattle.disk_memory.proofs.erase.MemEraseEraseDisk.read.Goals as goal

pub returns-then-read_fails-clause-stays : goal.returns-then-read_fails-clause-stays
returns-then-read_fails-clause-stays c = same_stays _ _ (ap calls_of c.fault.ensures ∙ c.read_fails.ensures.calls)
