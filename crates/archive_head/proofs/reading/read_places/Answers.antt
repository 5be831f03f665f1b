use Rattle.std.proofs.Common.{arith, rules}
use Rattle.archive_head.proofs.reading.read_places.Goals as goal

pub returns-clause-valid : goal.returns-clause-valid
returns-clause-valid c = record {
  applied = c.u64_at-2.type_inv;
  last = omega (arith, c.in-Some.ensures.moment);
  begun = c.u64_at-3.type_inv;
  fresh = c.u64_at-4.type_inv;
  block = c.u64_at-5.type_inv;
  root = c.u64_at-6.type_inv;
  few = search rules;
  lanes = search rules;
}
