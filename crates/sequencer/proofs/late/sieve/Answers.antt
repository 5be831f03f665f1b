use Rattle.std.proofs.Common.{arith, refl, ◌<◌, ◌≤◌, take}
use Rattle.sequencer.specs.Late.{greatest}
use Rattle.sequencer.proofs.api.Sieving.{late_step, kept_step}
use Rattle.sequencer.proofs.late.sieve.Goals as goal
use Rattle.sequencer.proofs.late.sieve.Goals.{then-number+in_ok-push, else-number+in_ok-push-2}

pub loop-index-preserved : goal.loop-index-preserved
loop-index-preserved c =
    elim c.if-number.branch [
      | then-number+in_ok-push w ↦
          let low : c.index-times-index.result < c.loop-index.reached = omega (arith, w.if-number.true, c.number.ensures.number, c.number-in-loop-index.ensures.number) in
          let s = late_step c.args.mark c.args.times.now c.loop-index.index c.loop-index.reached c.index-times-index.result c.loop-index-test.true c.index-times-index.is c.loop-index.invariant.mark low in
          record { timely = cc (s.kept, w.timely-is, c.loop-index.invariant.timely); late = rw (w.late-is, w.in_ok-push.ensures.items, s.late, c.loop-index.invariant.late) refl; mark = cc (s.mark_, w.reached-is) }
      | else-number+in_ok-push-2 w ↦
          let high : greatest c.args.mark (take c.loop-index.index c.args.times.now) ≤ c.index-times-index.result = omega (arith, w.if-number.false, c.number.ensures.number, c.number-in-loop-index.ensures.number, c.loop-index.invariant.mark) in
          let s = kept_step c.args.mark c.args.times.now c.loop-index.index c.index-times-index.result c.loop-index-test.true c.index-times-index.is high in
          record { timely = rw (w.timely-is, w.in_ok-push-2.ensures.items, s.kept, c.loop-index.invariant.timely) refl; late = rw (w.late-is, s.late, c.loop-index.invariant.late) refl; mark = cc (s.mark_, w.reached-is, w.at-reached.ensures.mark) }
    ]
