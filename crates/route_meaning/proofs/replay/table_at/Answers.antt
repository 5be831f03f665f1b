use Rattle.std.proofs.Common.{◌≡◌, ◌++◌, take, ◌∙◌, sym, subst, leb, true, false}
use Rattle.route_model.specs.Admission.{Admitted}
use Rattle.route_meaning.specs.Holds.{time_of, until, changes_of}
use Rattle.route_meaning.specs.inner.Replay.{IsTable}
use Rattle.route_meaning.proofs.Replays.{IsTable-none, taken, left}
use Rattle.route_meaning.proofs.replay.table_at.Goals as goal
use Rattle.route_meaning.proofs.replay.table_at.Goals.{then-counts_at+in_ok-take_admission, else-counts_at}

pub loop-placed-init : goal.loop-placed-init
loop-placed-init c = IsTable-none c.args.range.now _ c.new-table.ensures.empty

pub loop-placed-preserved : goal.loop-placed-preserved
loop-placed-preserved c =
    let so_far = changes_of (until c.args.moment (take c.loop-placed.placed-index c.args.list.now)) in
    elim c.if-counts_at.branch [
      | then-counts_at+in_ok-take_admission w ↦
          let counts : leb (time_of c.placed-item.result) c.args.moment ≡ true = sym c.counts_at.ensures.counts ∙ w.if-counts_at.true in
          rw w.table-is
          (taken c.args.range.now c.args.moment c.args.list.now c.loop-placed.placed-index c.placed-item.result _ c.loop-placed-test.true c.placed-item.is counts
          (subst (λ (a : Admitted). IsTable c.args.range.now (so_far ++ a.changes) w.take_admission.new.table) w.admission.ensures.admission
          (w.in_ok-take_admission.ensures so_far c.loop-placed.invariant)))
      | else-counts_at w ↦
          let late : leb (time_of c.placed-item.result) c.args.moment ≡ false = sym c.counts_at.ensures.counts ∙ w.if-counts_at.false in
          rw w.table-is
          (left c.args.range.now c.args.moment c.args.list.now c.loop-placed.placed-index c.placed-item.result _ c.loop-placed-test.true c.placed-item.is late c.loop-placed.invariant)
    ]
