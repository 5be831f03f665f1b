use Rattle.version_model.specs.Entries.{versions_of}
use Rattle.version_model.proofs.Places.{LastBelow}
use Rattle.version_model.proofs.finding.place_at.Given as goal

abbrev pub invariant-loop-i : goal.invariant-loop-i
invariant-loop-i l = LastBelow (versions_of l.entries) l.key l.stamp l.i l.best
