use Rattle.std.proofs.Common.{arith, ap}
use Rattle.version_model.specs.Ranges.{high_or}
use Rattle.route_history.proofs.KeyEnds.{key_below}
use Rattle.route_history.proofs.changed.front_at.Goals as goal

pub returns-in-None : goal.returns-in-None
returns-in-None c = λ p x hp hx asked low. (
    let below = key_below p x hp hx in
    absurd (omega (arith, below, low, ap high_or c.in-None.is)))
