use Rattle.std.proofs.Common.{◌+◌, ℕ, List, length, take, arith, sym, ◌∙◌, subst}
use Rattle.std.specs.List.{flat_map}
use Rattle.route_model.specs.Admission.{admission_octets}
use Rattle.page_journal.specs.Layout.{pages_of}
use Rattle.intake.specs.declared.ring.Ring.{Ring}
use Rattle.intake.specs.Ring.{entry, octets_for}
use Rattle.intake.specs.inner.Drafts.{Covers, Writes}
use Rattle.intake.proofs.Entries.{length-sized, entries_more, octets_more, octets_part, valid_more}
use Rattle.intake.proofs.Filling.{covers_later, writes_more}
use Rattle.intake.proofs.drafting.put_batch.Goals as goal

pub put_entry-requires-clause-room : goal.put_entry-requires-clause-room
put_entry-requires-clause-room c =
    let more = octets_more c.args.batch.now c.loop-admission.admission-index c.admission-item.result c.loop-admission-test.true c.admission-item.is in
    let part = octets_part (c.loop-admission.admission-index + 1) c.args.batch.now in
    omega (arith, more, part, c.loop-admission.invariant.used, c.requires.room, length-sized (admission_octets c.admission-item.result))

pub put_entry-requires-clause-covers : goal.put_entry-requires-clause-covers
put_entry-requires-clause-covers c =
    let more = octets_more c.args.batch.now c.loop-admission.admission-index c.admission-item.result c.loop-admission-test.true c.admission-item.is in
    let part = octets_part (c.loop-admission.admission-index + 1) c.args.batch.now in
    let ring = c.args.ring in
    let later : Ring = record ring { used = c.loop-admission.used } in
    let one = length (entry c.admission-item.result) in
    subst (λ (ns : List ℕ). Covers later c.args.begun (length ns) one) (sym c.loop-admission.invariant.numbers)
    (covers_later ring c.args.begun (length (pages_of c.args.images.now.items)) (octets_for c.args.batch.now) c.loop-admission.used (octets_for (take c.loop-admission.admission-index c.args.batch.now)) one
    c.loop-admission.invariant.used (omega (arith, more, part, length-sized (admission_octets c.admission-item.result))) c.requires.covers)

pub overflow_add-used-in-loop-admission : goal.overflow_add-used-in-loop-admission
overflow_add-used-in-loop-admission c =
    let more = octets_more c.args.batch.now c.loop-admission.admission-index c.admission-item.result c.loop-admission-test.true c.admission-item.is in
    let part = octets_part (c.loop-admission.admission-index + 1) c.args.batch.now in
    omega (arith, more, part, c.loop-admission.invariant.used, c.requires.room, c.requires.few, c.encoded_len.ensures.len)

pub loop-admission-preserved : goal.loop-admission-preserved
loop-admission-preserved c =
    let i = c.loop-admission.invariant in
    let batch = c.args.batch.now in
    let k = c.loop-admission.admission-index in
    let a = c.admission-item.result in
    let more = octets_more batch k a c.loop-admission-test.true c.admission-item.is in
    record {
      used = omega (arith, more, i.used, c.encoded_len.ensures.len);
      numbers = c.in_ok-put_entry.ensures.numbers ∙ i.numbers;
      written = subst (λ (l : List ℕ). Writes c.args.ring l c.args.images.now.items c.put_entry.new.images.items) (sym (entries_more batch k a c.loop-admission-test.true c.admission-item.is))
          (writes_more c.args.ring c.loop-admission.used (flat_map entry (take k batch)) (entry a) c.args.images.now.items c.loop-admission.images.items c.put_entry.new.images.items i.used i.written c.in_ok-put_entry.ensures.written);
      valid = valid_more batch k a c.loop-admission-test.true c.admission-item.is c.in_ok-put_entry.ensures.valid i.valid;
    }
