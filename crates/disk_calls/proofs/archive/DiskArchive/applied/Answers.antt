use Rattle.disk_calls.proofs.Serving.{honest_of}
use Rattle.disk_calls.proofs.archive.DiskArchive.applied.Goals as goal

pub returns : goal.returns
returns g c = record { counted = λ h k. c.applied.ensures.counted (honest_of c.args.self.now.archive h k.goes_on) h (λ _. k.goes_on) }
