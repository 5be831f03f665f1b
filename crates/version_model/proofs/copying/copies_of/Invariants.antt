use Rattle.std.proofs.Common.{◌≡◌, ◌++◌, drop, filter}
use Rattle.version_model.specs.Ranges.{end_or}
use Rattle.version_model.specs.Looks.{is_of}
use Rattle.version_model.specs.Entries.{versions_of}
use Rattle.version_model.proofs.copying.copies_of.Given as goal

abbrev pub invariant-loop-entry : goal.invariant-loop-entry
invariant-loop-entry l = versions_of l.kept.items ++ filter (is_of l.key l.from (end_or l.end)) (drop l.entry-index (versions_of l.entries)) ≡ filter (is_of l.key l.from (end_or l.end)) (versions_of l.entries)
