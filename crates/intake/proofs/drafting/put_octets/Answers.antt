use Rattle.std.proofs.Common.{◌≡◌, ◌+◌, ◌-◌, ◌++◌, ℕ, List, length, take, drop, arith, refl, sym, ◌∙◌, ap, subst, length-take, length-drop}
use Rattle.std.proofs.lemmas.List.{take_all}
use Rattle.std.proofs.Math.Seq.{take-add}
use Rattle.page_journal.specs.Layout.{pages_of}
use Rattle.intake.specs.declared.ring.Ring.{Ring}
use Rattle.intake.specs.inner.Drafts.{Covers, Writes}
use Rattle.intake.proofs.Filling.{covers_later, writes_more}
use Rattle.intake.proofs.drafting.put_octets.Goals as goal

rest_is : (n : ℕ) (octets : List ℕ) → take (length octets - n) (drop n octets) ≡ drop n octets
rest_is n octets = take_all (length octets - n) (drop n octets) (omega (arith, length-drop n octets))

pub put_piece-done-requires-clause-covers : goal.put_piece-done-requires-clause-covers
put_piece-done-requires-clause-covers c =
    let ring = c.args.ring in
    let octets = c.args.octets.now in
    let done = c.loop-done.done in
    let few = c.loop-done.invariant.few in
    let rest = take (length octets - done) (drop done octets) in
    let len = ap length (rest_is done octets) in
    let later : Ring = record ring { used = ring.used + done } in
    subst (λ (ns : List ℕ). Covers later c.args.begun (length ns) (length rest)) (sym c.loop-done.invariant.numbers)
    (covers_later ring c.args.begun (length (pages_of c.args.images.now.items)) (length octets) (ring.used + done) done (length rest) refl (omega (arith, few, len, length-drop done octets)) c.requires.covers)

pub loop-done-preserved : goal.loop-done-preserved
loop-done-preserved c =
    let i = c.loop-done.invariant in
    let ring = c.args.ring in
    let octets = c.args.octets.now in
    let done = c.loop-done.done in
    let few = i.few in
    let n = c.put_piece-done.result in
    let rest = take (length octets - done) (drop done octets) in
    let len = ap length (rest_is done octets) in
    let front = length-take done octets in
    let all : take done octets ++ take n rest ≡ take (done + n) octets = ap (λ (l : List ℕ). take done octets ++ take n l) (rest_is done octets) ∙ sym (take-add done n octets) in
    record {
      few = omega (arith, few, len, length-drop done octets, c.put_piece-done.ensures.few);
      numbers = c.put_piece-done.ensures.numbers ∙ i.numbers;
      written = subst (λ (l : List ℕ). Writes ring l c.args.images.now.items c.put_piece-done.new.images.items) all
          (writes_more ring (ring.used + done) (take done octets) (take n rest) c.args.images.now.items c.loop-done.images.items c.put_piece-done.new.images.items (omega (arith, few, front)) i.written c.put_piece-done.ensures.written);
    }

pub returns-clause-written : goal.returns-clause-written
returns-clause-written c =
    subst (λ (l : List ℕ). Writes c.args.ring l c.args.images.now.items c.loop-done.images.items) (take_all c.loop-done.done c.args.octets.now (omega (arith, c.loop-done-test.false))) c.loop-done.invariant.written
