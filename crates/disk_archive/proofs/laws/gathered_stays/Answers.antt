use Rattle.route_meaning.proofs.api.Beginning.{Begins-trans}
use Rattle.disk_archive.proofs.laws.gathered_stays.Goals as goal

pub returns : goal.returns
returns c = λ cursor h g begins gathered k right on all kept. gathered k right (Begins-trans h g k begins on) all kept
