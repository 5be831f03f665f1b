use Rattle.std.proofs.Common.{◌∙◌, List, [], refl, sym, ap, arith}
use Rattle.std.proofs.lemmas.List.{take_all}
use Rattle.route_model.specs.Admission.{Admitted}
use Rattle.route_meaning.specs.Holds.{admitted_time}
use Rattle.sequencer.specs.Late.{timely}
use Rattle.disk_archive.proofs.BatchSizes.{batch_octets, few_timely, late_more, timely_next}
use Rattle.disk_archive.proofs.batches.timely_len.Goals as goal
use Rattle.disk_archive.proofs.batches.timely_len.Goals.{then-number, else-number}

pub loop-admission-init : goal.loop-admission-init
loop-admission-init c = record { timely = record { octets = refl; reached = refl } }

pub loop-admission-preserved : goal.loop-admission-preserved
loop-admission-preserved c =
    let i = c.loop-admission.admission-index in
    let x = c.admission-item.result in
    let t = c.loop-admission.invariant.timely in
    elim c.if-number.branch [
      | then-number w ↦ (
          let n = timely_next c.args.mark c.args.batch.now i c.loop-admission.octets c.loop-admission.reached x c.loop-admission-test.true c.admission-item.is t (omega (arith, w.if-number.true, c.number.ensures.number, c.time-time.ensures.time)) in
          record { timely = record { octets = omega (arith, w.octets-is, n.octets, w.encoded_len.ensures.len); reached = omega (arith, w.reached-is, w.at-reached.ensures.mark, c.time-time.ensures.time, n.reached) } }
          )
      | else-number w ↦ (
          let n = late_more c.args.mark c.args.batch.now i c.loop-admission.octets c.loop-admission.reached x c.loop-admission-test.true c.admission-item.is t (omega (arith, w.if-number.false, c.number.ensures.number, c.time-time.ensures.time)) in
          record { timely = record { octets = omega (arith, w.octets-is, n.octets); reached = omega (arith, w.reached-is, n.reached) } }
          )
    ]

pub returns : goal.returns
returns c =
    let sum = c.rings_hold_one_list.ensures.octets (timely admitted_time c.args.mark [] c.args.batch.now) in
    let counted = c.loop-admission.invariant.timely.octets in
    let all = take_all c.loop-admission.admission-index c.args.batch.now c.loop-admission-test.false in
    record { octets = counted ∙ (ap (λ (l : List Admitted). batch_octets (timely admitted_time c.args.mark [] l)) all ∙ sym sum) }

pub overflow_add-octets-then-number : goal.overflow_add-octets-then-number
overflow_add-octets-then-number c =
    let few = few_timely c.args.mark c.args.batch.now c.loop-admission.admission-index c.loop-admission.octets c.loop-admission.reached c.loop-admission.invariant.timely in
    let all = c.requires.octets in
    omega (arith, few, all, c.encoded_len.ensures.few)
