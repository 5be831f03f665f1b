use Rattle.std.proofs.Common.{◌≡◌, ◌+◌, ◌≤◌, drop}
use Rattle.version_model.specs.Counts.{count_in}
use Rattle.version_model.specs.Entries.{versions_of}
use Rattle.version_model.specs.Ranges.{range_of}
use Rattle.tsb_check.proofs.counting.count_inside.Given as goal

abbrev pub invariant-loop-entry : goal.invariant-loop-entry
invariant-loop-entry l = record {
  counts : l.count + count_in (drop l.entry-index (versions_of l.entries)) (range_of l.bounds) ≡ count_in (versions_of l.entries) (range_of l.bounds);
  few : l.count ≤ l.entry-index;
}
