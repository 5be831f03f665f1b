use Rattle.std.proofs.Common.{◌≡◌, ◌∙◌, sym}
use Rattle.route_meaning.proofs.Reported.{reported_in, reported_out, plus_item}
use Rattle.route_meaning.proofs.reporting.all_reported.Goals as goal
use Rattle.route_meaning.proofs.reporting.all_reported.Goals.{then-is_between+in_ok-add_reported, else-is_between}

pub loop-placed-preserved : goal.loop-placed-preserved
loop-placed-preserved c =
    let q = c.placed-item.result in
    let ps = c.args.list.now in
    let asked = c.args.question.now in
    elim c.if-is_between.branch [
      | then-is_between+in_ok-add_reported w ↦
          rw w.reported-is
          (reported_in asked.peer asked.prefix asked.from asked.to ps c.loop-placed.placed-index q c.loop-placed-test.true c.placed-item.is (sym c.is_between.ensures.between ∙ w.if-is_between.true) c.loop-placed.reported.items _ c.loop-placed.invariant
          (plus_item asked.peer asked.prefix c.loop-placed.reported.items w.add_reported.new.reported.items w.admission.result.now q w.admission.ensures.admission w.in_ok-add_reported.ensures))
      | else-is_between w ↦
          rw w.reported-is
          (reported_out asked.peer asked.prefix asked.from asked.to ps c.loop-placed.placed-index q c.loop-placed-test.true c.placed-item.is (sym c.is_between.ensures.between ∙ w.if-is_between.false) c.loop-placed.reported.items c.loop-placed.invariant)
    ]
