use Rattle.std.proofs.Common.{◌≡◌, ◌+◌, drop}
use Rattle.version_model.specs.Entries.{versions_of}
use Rattle.version_model.specs.Sizes.{octets}
use Rattle.version_model.proofs.sizing.are_within.Given as goal

abbrev pub invariant-loop-entry : goal.invariant-loop-entry
invariant-loop-entry l = l.room + octets (drop l.entry-index (versions_of l.entries)) ≡ l.left + octets (versions_of l.entries)
