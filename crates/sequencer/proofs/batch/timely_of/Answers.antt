use Rattle.std.proofs.Common.{subst, sym, refl}
use Rattle.route_meaning.specs.Holds.{admitted_time}
use Rattle.sequencer.proofs.Reported.{IsPassed, passed_none, passed_late, passed_timely, passed_all}
use Rattle.sequencer.proofs.batch.timely_of.Goals as goal
use Rattle.sequencer.proofs.batch.timely_of.Goals.{then-is_reported, else-is_reported+in_ok-share+in_ok-push}

pub loop-index-init : goal.loop-index-init
loop-index-init c = λ mark e. subst (IsPassed admitted_time mark c.args.late.now c.args.batch.now 0 0) (sym c.new-kept.ensures.items) (passed_none admitted_time mark c.args.late.now c.args.batch.now e)

pub loop-index-preserved : goal.loop-index-preserved
loop-index-preserved c = λ mark e.
    let late = c.args.late.now in
    let batch = c.args.batch.now in
    let i = c.loop-index.index in
    let passed = c.loop-index.passed in
    let kept = c.loop-index.kept.items in
    let x = c.index-batch-index.result in
    let p = c.loop-index.invariant mark e in
    elim c.if-is_reported.branch [
      | then-is_reported w ↦
          let next = passed_late admitted_time mark late batch i passed kept p x c.loop-index-test.true c.index-batch-index.is (w.if-is_reported.ensures.reported.0 refl) in
          rw (w.passed-is, w.kept-is) next
      | else-is_reported+in_ok-share+in_ok-push w ↦
          let next = passed_timely admitted_time mark late batch i passed kept p x c.loop-index-test.true c.index-batch-index.is (λ reported. absurd (let f = w.if-is_reported.ensures.reported.1 reported in cc)) in
          rw (w.passed-is, w.kept-is, w.in_ok-push.ensures.items, w.in_ok-share.ensures.same) next
    ]

pub returns : goal.returns
returns c = record { timely = λ mark e. passed_all admitted_time mark c.args.late.now c.args.batch.now c.loop-index.index c.loop-index.passed c.loop-index.kept.items c.loop-index-test.false (c.loop-index.invariant mark e) }
