use Rattle.disk_archive.proofs.Turning.{located_on}
use Rattle.disk_archive.proofs.laws.errands_stay.Goals as goal

pub returns : goal.returns
returns c = located_on
