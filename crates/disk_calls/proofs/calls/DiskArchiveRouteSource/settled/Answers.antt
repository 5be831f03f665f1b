use Rattle.disk_calls.proofs.Serving.{honest_of}
use Rattle.disk_calls.proofs.calls.DiskArchiveRouteSource.settled.Goals as goal

pub returns : goal.returns
returns g c = record { settled = λ h k. c.settled.ensures.settled (honest_of c.args.self.now.archive h k.goes_on) h (λ _. k.goes_on) }
