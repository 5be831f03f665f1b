use Rattle.std.proofs.Common.{length, drop, ◌≤◌, ◌-◌}
use Rattle.route_model.proofs.api.Sequences.{ReadSoFar}
use Rattle.mrt_records.specs.Entries.{IsEntryField}
use Rattle.mrt_records.specs.Places.{entries_in, AreWithin}
use Rattle.mrt_records.proofs.rib.places_of.Given as goal

abbrev pub invariant-loop-next : goal.invariant-loop-next
invariant-loop-next l = record {
  reads : ReadSoFar IsEntryField l.bytes (drop l.next l.bytes) (entries_in l.bytes l.places.items);
  reached : l.next ≤ length l.bytes;
  within : AreWithin l.bytes l.places.items;
}

abbrev pub decreases-loop-next : goal.decreases-loop-next
decreases-loop-next l = length l.bytes - l.next
