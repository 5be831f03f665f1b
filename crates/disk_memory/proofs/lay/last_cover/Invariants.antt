use Rattle.std.proofs.Common.{◌≤◌, length}
use Rattle.disk_memory.proofs.lay.last_cover.Given as goal

abbrev pub invariant-loop-first : goal.invariant-loop-first
invariant-loop-first l = l.first ≤ length l.calls

abbrev pub decreases-loop-first : goal.decreases-loop-first
decreases-loop-first l = l.first
