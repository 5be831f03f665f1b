use Rattle.std.proofs.Common.{◌≡◌, ◌++◌, drop}
use Rattle.version_model.specs.Entries.{versions_of}
use Rattle.version_model.proofs.copying.copies.Given as goal

abbrev pub invariant-loop-entry : goal.invariant-loop-entry
invariant-loop-entry l = versions_of l.kept.items ++ drop l.entry-index (versions_of l.entries) ≡ versions_of l.entries
