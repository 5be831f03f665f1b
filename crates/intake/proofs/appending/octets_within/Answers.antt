use Rattle.std.proofs.Common.{◌+◌, arith}
use Rattle.intake.proofs.Entries.{octets_more, octets_part}
use Rattle.intake.proofs.appending.octets_within.Goals as goal

pub returns-then-octets-free-clause-none : goal.returns-then-octets-free-clause-none
returns-then-octets-free-clause-none c =
    let more = octets_more c.args.batch.now c.loop-admission.admission-index c.admission-item.result c.loop-admission-test.true c.admission-item.is in
    let part = octets_part (c.loop-admission.admission-index + 1) c.args.batch.now in
    omega (arith, c.if-octets-free.true, c.encoded_len.ensures.len, c.loop-admission.invariant.octets, more, part)

pub loop-admission-preserved : goal.loop-admission-preserved
loop-admission-preserved c =
    let more = octets_more c.args.batch.now c.loop-admission.admission-index c.admission-item.result c.loop-admission-test.true c.admission-item.is in
    record {
      octets = omega (arith, more, c.encoded_len.ensures.len, c.loop-admission.invariant.octets);
      few = omega (arith, c.if-octets-free.false);
    }
