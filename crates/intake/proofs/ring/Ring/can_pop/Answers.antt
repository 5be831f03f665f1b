use Rattle.std.proofs.Common.{◌+◌, arith}
use Rattle.std.proofs.lemmas.Bool.{leb-true, le-leb}
use Rattle.route_model.specs.Admission.{admission_octets}
use Rattle.intake.proofs.Entries.{length-sized}
use Rattle.intake.proofs.ring.Ring.can_pop.Goals as goal

pub returns : goal.returns
returns c =
    let used = c.args.self.now.used in
    let len = length-sized (admission_octets c.args.admission.now) in
    let is = c.encoded_len.ensures.len in
    record {
      fits = (
        (λ t. let le = leb-true (4 + c.encoded_len.result) used t in omega (arith, le, len, is)),
        (λ le. le-leb (4 + c.encoded_len.result) used (omega (arith, le, len, is))),
      );
    }
