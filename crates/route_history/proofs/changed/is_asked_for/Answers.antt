use Rattle.std.proofs.Common.{sym}
use Rattle.route_history.proofs.ChangedLeaps.{asked_within}
use Rattle.route_history.proofs.changed.is_asked_for.Goals as goal

pub returns : goal.returns
returns c = λ p x hx e.
    let w = asked_within c.args.question.now c.args.key c.of_prefix-low.result c.of_prefix-high.result p x hx e c.of_prefix-low.ensures.key c.of_prefix-high.ensures.key in
    (λ t. w.0 (c.is_within.ensures.0 t), λ h. c.is_within.ensures.1 (w.1 h))
