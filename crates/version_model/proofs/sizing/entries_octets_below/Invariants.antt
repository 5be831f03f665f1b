use Rattle.std.proofs.Common.{◌≡◌, ◌+◌, drop}
use Rattle.version_model.specs.Entries.{versions_of}
use Rattle.version_model.specs.Sizes.{octets_below}
use Rattle.version_model.proofs.sizing.entries_octets_below.Given as goal

abbrev pub invariant-loop-entry : goal.invariant-loop-entry
invariant-loop-entry l = l.sum + octets_below l.key (drop l.entry-index (versions_of l.entries)) ≡ octets_below l.key (versions_of l.entries)
