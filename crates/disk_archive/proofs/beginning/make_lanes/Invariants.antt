use Rattle.std.proofs.Common.{◌≡◌, length, replicate}
use Rattle.disk_archive.specs.inner.Creating.{bare_lane}
use Rattle.disk_archive.proofs.beginning.make_lanes.Given as goal

abbrev pub invariant-loop : goal.invariant-loop
invariant-loop l = (l.lanes.items ≡ replicate (length l.lanes.items) bare_lane) × (length l.lanes.items ≡ l.counter)
