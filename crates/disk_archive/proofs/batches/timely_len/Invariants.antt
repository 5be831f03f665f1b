use Rattle.std.proofs.Common.{take}
use Rattle.disk_archive.proofs.BatchSizes.{AreTimely}
use Rattle.disk_archive.proofs.batches.timely_len.Given as goal

abbrev pub invariant-loop-admission : goal.invariant-loop-admission
invariant-loop-admission l = record {
  timely : AreTimely l.fn.mark (take l.admission-index l.batch) l.octets l.reached;
}
