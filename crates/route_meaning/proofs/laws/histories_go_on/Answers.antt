use Rattle.route_meaning.proofs.api.Front.{front_kept, settled_stays}
use Rattle.route_meaning.proofs.Growing.{applied_grows}
use Rattle.route_meaning.proofs.api.Beginning.{Begins-refl, Begins-trans}
use Rattle.route_meaning.proofs.laws.histories_go_on.Goals as goal

pub returns : goal.returns
returns c = record { front = front_kept; applied = applied_grows; settled = settled_stays; itself = Begins-refl; chain = Begins-trans }
