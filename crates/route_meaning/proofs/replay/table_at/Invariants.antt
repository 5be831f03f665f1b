use Rattle.std.proofs.Common.{take}
use Rattle.route_meaning.specs.Holds.{until, changes_of}
use Rattle.route_meaning.specs.inner.Replay.{IsTable}
use Rattle.route_meaning.proofs.replay.table_at.Given as goal

abbrev pub invariant-loop-placed : goal.invariant-loop-placed
invariant-loop-placed l = IsTable l.range (changes_of (until l.moment (take l.placed-index l.list))) l.table
