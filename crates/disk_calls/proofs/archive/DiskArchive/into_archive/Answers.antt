use Rattle.disk_calls.proofs.Resting.{rests_now}
use Rattle.disk_calls.proofs.archive.DiskArchive.into_archive.Goals as goal

pub returns-clause-rests : goal.returns-clause-rests
returns-clause-rests g c = λ h k. rests_now c.args.self.archive h k.goes_on
