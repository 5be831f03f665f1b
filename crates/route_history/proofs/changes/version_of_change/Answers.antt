use Rattle.std.proofs.Common.{◌≡◌, ◌<◌, ◌+◌, ℕ, sym, subst}
use Rattle.version_model.specs.Ranges.{key_end}
use Rattle.route_history.proofs.KeyEnds.{key_inside}
use Rattle.route_history.proofs.changes.version_of_change.Goals as goal

pub returns-clause-inside : goal.returns-clause-inside
returns-clause-inside c is = subst (λ (n : ℕ). n + 1 < key_end) (sym c.key_of-key.ensures) (key_inside c.args.change.now is)
