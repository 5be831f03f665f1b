use Rattle.version_model.specs.Entries.{versions_of}
use Rattle.version_model.proofs.api.Least.{LeastBelow}
use Rattle.version_model.proofs.finding.least_live.Given as goal

abbrev pub invariant-loop-entry : goal.invariant-loop-entry
invariant-loop-entry l = LeastBelow (versions_of l.entries) l.stamp l.from l.entry-index l.best
