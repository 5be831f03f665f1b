use Rattle.std.proofs.Common.{take}
use Rattle.route_meaning.specs.Events.{between}
use Rattle.route_meaning.specs.Holds.{changes_of}
use Rattle.changed_prefixes.specs.inner.Gathered.{HasGathered}
use Rattle.changed_prefixes.proofs.gathering.gathered.Given as goal

abbrev pub invariant-loop-placed : goal.invariant-loop-placed
invariant-loop-placed l = HasGathered l.question (changes_of (between l.question.from l.question.to (take l.placed-index l.list))) l.table
