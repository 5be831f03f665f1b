use Rattle.version_model.specs.Entries.{versions_of}
use Rattle.version_model.proofs.Points.{PointSo}
use Rattle.version_model.proofs.sizing.point_of.Given as goal

abbrev pub invariant-loop-entry : goal.invariant-loop-entry
invariant-loop-entry l = PointSo (versions_of l.entries) l.least l.entry-index l.best
