use Rattle.std.proofs.Common.{arith}
use Rattle.disk_archive.proofs.BatchSizes.{octets_more, too_many, valid_more}
use Rattle.disk_archive.proofs.batches.fits.Goals as goal

pub returns-then-octets-gt-MAX_BATCH_LEN-clause-octets : goal.returns-then-octets-gt-MAX_BATCH_LEN-clause-octets
returns-then-octets-gt-MAX_BATCH_LEN-clause-octets c = (
  λ e. absurd cc,
  λ low. absurd (too_many c.args.batch.now c.loop-admission.admission-index c.admission-item.result c.loop-admission-test.true c.admission-item.is
      (omega (arith, c.if-octets-gt-MAX_BATCH_LEN.true, c.encoded_len.ensures.len, c.loop-admission.invariant.octets)) low),
)

pub loop-admission-preserved : goal.loop-admission-preserved
loop-admission-preserved c =
    let more = octets_more c.args.batch.now c.loop-admission.admission-index c.admission-item.result c.loop-admission-test.true c.admission-item.is in
    record {
      octets = omega (arith, more, c.encoded_len.ensures.len, c.loop-admission.invariant.octets);
      few = omega (arith, c.if-octets-gt-MAX_BATCH_LEN.false);
      valid = valid_more c.args.batch.now c.loop-admission.admission-index c.admission-item.result c.loop-admission-test.true c.admission-item.is c.changes-changes.ensures.valid c.loop-admission.invariant.valid;
    }
