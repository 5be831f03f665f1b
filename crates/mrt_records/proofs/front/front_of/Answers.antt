use Rattle.std.proofs.Common.{arith}
use Rattle.mrt_records.proofs.api.Streams.{whole_front}
use Rattle.mrt_records.proofs.front.front_of.Goals as goal

pub returns-else-bytes-whole : goal.returns-else-bytes-whole
returns-else-bytes-whole c =
    (omega arith, omega arith, whole_front _ c.args.bytes.now (omega arith) (omega (arith, c.u32_at-len.ensures.number)) (omega (arith, c.u32_at-len.ensures.number)))
