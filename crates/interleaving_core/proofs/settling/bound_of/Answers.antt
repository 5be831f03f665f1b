use Rattle.std.proofs.Common.{◌≡◌, arith}
use Rattle.std.proofs.lemmas.Bool.{eq-eqb}
use Rattle.interleaving_core.proofs.Settled.{first_found}
use Rattle.interleaving_core.proofs.settling.bound_of.Goals as goal

pub returns-then-collector : goal.returns-then-collector
returns-then-collector c =
    let p = c.placed-item.result in
    let own : p.collector ≡ c.args.collector = omega (arith, c.if-collector.true, c.collector.ensures.collector) in
    let found = first_found c.args.collector c.args.mark c.args.waiting.now c.loop-placed.placed-index p c.loop-placed-test.true c.placed-item.is c.loop-placed.invariant (eq-eqb p.collector c.args.collector own) in
    omega (arith, found, c.at.ensures.mark, c.time.ensures.time)
