use Rattle.std.proofs.Common.{arith}
use Rattle.shared_archive.proofs.Serving.{honest_of, none_admitted, number_of, resumed}
use Rattle.shared_archive.proofs.turns.admitted.Goals as goal

pub returns-then-collector-collectors : goal.returns-then-collector-collectors
returns-then-collector-collectors g c = record {
  count = λ p k.
      let same = number_of c.args.archive.now p k in
      none_admitted p.history c.args.collector (omega (arith, same));
}

pub returns : goal.returns
returns g c = record { count = λ p k. resumed p.history c.args.collector c.resume.result (c.resume.ensures.resume (honest_of c.args.archive.now p k) p.history (λ _. k.goes_on)) }
