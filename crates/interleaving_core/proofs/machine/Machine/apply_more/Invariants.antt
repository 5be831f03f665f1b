use Rattle.std.proofs.Common.{◌≡◌}
use Rattle.route_meaning.specs.History.{History}
use Rattle.interleaving_core.specs.World.{with_history}
use Rattle.interleaving_core.proofs.NextChanges.{AppliesAll}
use Rattle.interleaving_core.proofs.machine.Machine.apply_more.Given as goal

abbrev pub invariant-more : goal.invariant-more
invariant-more l = (g : History) × AppliesAll l.counter l.initial.self.history g × (l.self ≡ with_history l.initial.self g)
