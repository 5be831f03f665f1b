use Rattle.std.proofs.Common.{◌++◌, take, ◌∙◌, sym, subst}
use Rattle.route_model.specs.Admission.{Admitted}
use Rattle.route_meaning.specs.Events.{between}
use Rattle.route_meaning.specs.Holds.{changes_of}
use Rattle.changed_prefixes.specs.inner.Gathered.{HasGathered}
use Rattle.changed_prefixes.proofs.Taking.{nothing}
use Rattle.changed_prefixes.proofs.Spans.{counted, left}
use Rattle.changed_prefixes.proofs.gathering.gathered.Goals as goal
use Rattle.changed_prefixes.proofs.gathering.gathered.Goals.{then-is_between+in_ok-take_admission, else-is_between}

pub loop-placed-init : goal.loop-placed-init
loop-placed-init c = nothing c.args.question.now _ c.new-table.ensures.empty

pub loop-placed-preserved : goal.loop-placed-preserved
loop-placed-preserved c =
    let q = c.args.question.now in
    let ps = c.args.list.now in
    let so_far = changes_of (between q.from q.to (take c.loop-placed.placed-index ps)) in
    elim c.if-is_between.branch [
      | then-is_between+in_ok-take_admission w ↦
          rw w.table-is
          (counted q ps c.loop-placed.placed-index c.placed-item.result c.loop-placed-test.true c.placed-item.is _ (sym c.is_between.ensures.between ∙ w.if-is_between.true)
          (subst (λ (a : Admitted). HasGathered q (so_far ++ a.changes) w.take_admission.new.table) w.admission.ensures.admission
          (w.in_ok-take_admission.ensures so_far c.loop-placed.invariant)))
      | else-is_between w ↦
          rw w.table-is
          (left q ps c.loop-placed.placed-index c.placed-item.result c.loop-placed-test.true c.placed-item.is _ (sym c.is_between.ensures.between ∙ w.if-is_between.false) c.loop-placed.invariant)
    ]
