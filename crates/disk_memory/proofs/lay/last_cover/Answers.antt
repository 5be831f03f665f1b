use Rattle.std.proofs.Common.{◌-◌, refl, arith}
use Rattle.disk_memory.proofs.Covering.{cover_enough}
use Rattle.disk_memory.proofs.lay.last_cover.Goals as goal

pub returns-then-covers-clause-enough : goal.returns-then-covers-clause-enough
returns-then-covers-clause-enough c =
    cover_enough c.args.calls.now (c.loop-first.first - 1) c.args.at c.args.size c.index-calls-first.result (omega arith) c.index-calls-first.is (c.if-covers.ensures refl)
