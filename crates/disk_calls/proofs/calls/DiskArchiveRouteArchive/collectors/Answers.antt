use Rattle.std.proofs.Common.{sym}
use Rattle.disk_calls.proofs.Serving.{honest_of}
use Rattle.disk_calls.proofs.calls.DiskArchiveRouteArchive.collectors.Goals as goal

pub returns-clause-count : goal.returns-clause-count
returns-clause-count g c = λ h k. sym (c.collectors.ensures.count (honest_of c.args.self.now.archive h k.goes_on) h (λ _. k.goes_on))
