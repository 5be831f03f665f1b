use Rattle.std.proofs.Common.{◌≡◌, length}
use Rattle.mrt_records.proofs.api.Streams.{Progress}
use Rattle.mrt_records.proofs.feeding.push_items.Given as goal

abbrev pub invariant-loop-len : goal.invariant-loop-len
invariant-loop-len l = record { reached : Progress l.fn.bytes l.rest l.fn.out.items l.out.items; marked : l.mark ≡ length l.fn.out.items }

abbrev pub decreases-loop-len : goal.decreases-loop-len
decreases-loop-len l = length l.rest
