use Rattle.std.proofs.Common.{◌≡◌, take}
use Rattle.interleaving_core.proofs.turns.same_events.Given as goal

abbrev pub invariant-loop-event : goal.invariant-loop-event
invariant-loop-event l = l.same.items ≡ take l.event-index l.events
