use Rattle.std.proofs.Common.{length, ◌-◌}
use Rattle.resolve.specs.Entries.{family_of, IsKnown}
use Rattle.resolve.proofs.Announcing.{Announced}
use Rattle.resolve.proofs.entries.entry_changes.Given as goal

abbrev pub invariant-loop-entry : goal.invariant-loop-entry
invariant-loop-entry l = record {
  announced : Announced l.rule l.collector l.peers l.prefix l.entries l.index l.changes.items;
  known : IsKnown l.rule (family_of l.prefix.address) l.known;
}

abbrev pub decreases-loop-entry : goal.decreases-loop-entry
decreases-loop-entry l = length l.entries - l.index
