use Rattle.std.proofs.Common.{◌≡◌, ◌++◌, take, List}
use Rattle.route_model.specs.declared.change.Change.{Change}
use Rattle.route_meaning.specs.inner.Replay.{IsTable}
use Rattle.route_meaning.proofs.replay.take_admission.Given as goal

abbrev pub invariant-loop-change : goal.invariant-loop-change
invariant-loop-change l = (changes : List Change) → IsTable l.range changes l.initial.table → IsTable l.range (changes ++ take l.change-index l.admission.changes) l.table
