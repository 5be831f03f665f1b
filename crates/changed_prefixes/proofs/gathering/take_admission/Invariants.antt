use Rattle.std.proofs.Common.{◌++◌, take, List}
use Rattle.route_model.specs.declared.change.Change.{Change}
use Rattle.changed_prefixes.specs.inner.Gathered.{HasGathered}
use Rattle.changed_prefixes.proofs.gathering.take_admission.Given as goal

abbrev pub invariant-loop-change : goal.invariant-loop-change
invariant-loop-change l = (changes : List Change) → HasGathered l.question changes l.initial.table → HasGathered l.question (changes ++ take l.change-index l.admission.changes) l.table
