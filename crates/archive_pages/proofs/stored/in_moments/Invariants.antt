use Rattle.std.proofs.Common.{◌≡◌, length}
use Rattle.route_model.specs.Units.{moments_in}
use Rattle.route_model.specs.declared.unit.Unit.TheVariants.{Seconds}
use Rattle.archive_pages.specs.Stored.{scaled_times}
use Rattle.archive_pages.proofs.stored.in_moments.Given as goal

abbrev pub invariant-loop-i : goal.invariant-loop-i
invariant-loop-i l = l.times.items ≡ scaled_times (moments_in Seconds) l.i l.initial.times.items
