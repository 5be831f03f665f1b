use Rattle.std.proofs.Common.{arith}
use Rattle.mrt_records.proofs.EntryFields.{entry_front}
use Rattle.mrt_records.proofs.rib.entry_at.Goals as goal

pub returns-clause-found : goal.returns-clause-found
returns-clause-found c = (entry_front c.args.bytes.now c.u16_at-size.result c.u16_at.result (omega arith) c.u16_at-size.ensures.number c.u16_at.ensures.number, omega arith)
