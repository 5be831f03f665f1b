use Rattle.std.proofs.Common.{◌≡◌, ◌++◌, map}
use Rattle.route_meaning.specs.inner.Replay.{row_at}
use Rattle.route_meaning.proofs.replay.put_rows.Given as goal

abbrev pub invariant-loop-spot : goal.invariant-loop-spot
invariant-loop-spot l = l.rows.items ≡ l.initial.rows.items ++ map (λ e. row_at e.0.now e.1.now) l.yielded
