use Rattle.std.proofs.Common.{◌≡◌, ◌+◌, ◌++◌, ℕ, List, length, arith, refl, sym, ◌∙◌, ap, subst}
use Rattle.std.specs.Int.{w32, to_be_bytes}
use Rattle.route_model.specs.Admission.{admission_octets}
use Rattle.page_journal.specs.Layout.{pages_of}
use Rattle.intake.specs.declared.ring.Ring.{Ring}
use Rattle.intake.specs.Ring.{entry}
use Rattle.intake.specs.inner.Drafts.{Covers, Writes}
use Rattle.intake.proofs.Entries.{entry_is, length-sized}
use Rattle.intake.proofs.Filling.{covers_later, writes_more}
use Rattle.intake.proofs.drafting.put_entry.Goals as goal

four : (n : ℕ) → length (to_be_bytes w32 n) ≡ 4
four n = refl

pub put_octets-requires-clause-room : goal.put_octets-requires-clause-room
put_octets-requires-clause-room c =
    let len = ap length c.to_be_bytes.ensures ∙ four c.encoded_len-len.result in
    omega (arith, c.requires.room, len, length-sized (admission_octets c.args.admission.now))

pub put_octets-requires-clause-covers : goal.put_octets-requires-clause-covers
put_octets-requires-clause-covers c =
    let ring = c.args.ring in
    let len = ap length c.to_be_bytes.ensures ∙ four c.encoded_len-len.result in
    covers_later ring c.args.begun (length (pages_of c.args.images.now.items)) (length (entry c.args.admission.now)) ring.used 0 (length c.to_be_bytes.result) (omega arith) (omega (arith, len, length-sized (admission_octets c.args.admission.now))) c.requires.covers

pub put_octets-requires-2-clause-room : goal.put_octets-requires-2-clause-room
put_octets-requires-2-clause-room c =
    let encoded = ap length (c.deref.ensures.value ∙ c.in_ok-octets.ensures.encoding.encoded) in
    omega (arith, c.requires.room, encoded, length-sized (admission_octets c.args.admission.now))

pub put_octets-requires-2-clause-covers : goal.put_octets-requires-2-clause-covers
put_octets-requires-2-clause-covers c =
    let ring = c.args.ring in
    let encoded = ap length (c.deref.ensures.value ∙ c.in_ok-octets.ensures.encoding.encoded) in
    let later : Ring = record ring { used = ring.used + 4 } in
    subst (λ (ns : List ℕ). Covers later c.args.begun (length ns) (length c.deref.result.now)) (sym c.put_octets.ensures.numbers)
    (covers_later ring c.args.begun (length (pages_of c.args.images.now.items)) (length (entry c.args.admission.now)) (ring.used + 4) 4 (length c.deref.result.now) refl (omega (arith, encoded, length-sized (admission_octets c.args.admission.now))) c.requires.covers)

pub returns-clause-written : goal.returns-clause-written
returns-clause-written c =
    let ring = c.args.ring in
    let a = c.args.admission.now in
    let len = ap length c.to_be_bytes.ensures ∙ four c.encoded_len-len.result in
    let bytes : c.to_be_bytes.result ≡ to_be_bytes w32 (length (admission_octets a)) = c.to_be_bytes.ensures ∙ ap (to_be_bytes w32) c.encoded_len-len.ensures.len in
    let encoded : c.deref.result.now ≡ admission_octets a = c.deref.ensures.value ∙ c.in_ok-octets.ensures.encoding.encoded in
    let is : c.to_be_bytes.result ++ c.deref.result.now ≡ entry a =
    ap (λ (l : List ℕ). l ++ c.deref.result.now) bytes ∙ (ap (λ (l : List ℕ). to_be_bytes w32 (length (admission_octets a)) ++ l) encoded ∙ sym (entry_is a)) in
    subst (λ (l : List ℕ). Writes ring l c.args.images.now.items c.put_octets-2.new.images.items) is
    (writes_more ring (ring.used + 4) c.to_be_bytes.result c.deref.result.now c.args.images.now.items c.put_octets.new.images.items c.put_octets-2.new.images.items (omega (arith, len)) c.put_octets.ensures.written c.put_octets-2.ensures.written)
