use Rattle.std.proofs.Common.{arith, sym}
use Rattle.disk_calls.proofs.Serving.{honest_of, none_resumed, number_of}
use Rattle.disk_calls.proofs.calls.DiskArchiveRouteArchive.resume.Goals as goal

pub returns-then-collector-collectors : goal.returns-then-collector-collectors
returns-then-collector-collectors g c = record {
  resume = λ h k.
      let same = number_of c.args.self.now.archive h k.goes_on in
      sym (none_resumed h c.args.collector (omega (arith, same)));
}

pub returns : goal.returns
returns g c = record { resume = λ h k. sym (c.resume.ensures.resume (honest_of c.args.self.now.archive h k.goes_on) h (λ _. k.goes_on)) }
