use Rattle.std.proofs.Common.{rules, ◌≡◌, ◌+◌, ℕ, List, [], ◌∷◌, length, IfErr, Result, Ok, Err, Some, arith, sym, ◌∙◌, ap, subst}
use Rattle.std.specs.List.{slice_get}
use Rattle.page_tx.specs.declared.error.PageError.TheVariants as refusals
use Rattle.route_model.specs.Admission.{Admitted, admission_octets}
use Rattle.intake.specs.declared.error.ReadError.{ReadError}
use Rattle.intake.specs.declared.error.ReadError.TheVariants as reads
use Rattle.intake.specs.declared.ring.Ring.{Ring}
use Rattle.intake.specs.Ring.{entry, RingRepresents}
use Rattle.intake.specs.Outlines.{IsFirst}
use Rattle.intake.proofs.Entries.{length-sized}
use Rattle.intake.proofs.Passing.{Passed, passed_more, passed_breaks}
use Rattle.intake.proofs.Untouched.{passed_on, reads_as, reads_then}
use Rattle.intake.proofs.ring.Ring.count.Goals as goal

-- what is read failed no read
no_fault : {T : Type 0} (r : Result T ReadError) (x : T) → r ≡ Ok x → r ≡ Err (reads.Pages refusals.Fault) → ⊥
no_fault r x was is = cc

pub returns-in_err-first-clause-breaks : goal.returns-in_err-first-clause-breaks
returns-in_err-first-clause-breaks g c page is start shown are =
    let i = c.loop-first.invariant in
    let ring = c.requires.ring in
    let reported : IfErr c.from_residual.result (λ e. e ≡ c.in_err-first.field-0.0) = search rules in
    let was = passed_on c.from_residual.result c.front.result c.in_err-first.field-0.0 page reported c.in_err-first.was is in
    let now = i.same.shown start shown are in
    passed_breaks shown c.args.self.now c.loop-first.rest c.loop-first.count page ring.start ring.used (i.passed start shown are) (c.front.ensures.some page was) (λ a first. c.front.ensures.no_first page was start shown a now first) (c.front.ensures.begins page was)

pub returns-in_err-first-clause-sound : goal.returns-in_err-first-clause-sound
returns-in_err-first-clause-sound g c page is start shown waits are holds =
    let i = c.loop-first.invariant in
    let reported : IfErr c.from_residual.result (λ e. e ≡ c.in_err-first.field-0.0) = search rules in
    let was = passed_on c.from_residual.result c.front.result c.in_err-first.field-0.0 page reported c.in_err-first.was is in
    let more = i.left start shown waits are holds in
    c.front.ensures.damaged page was start shown more.0 (i.same.shown start shown are) more.1

-- the first of what is held is taken out
taken : (pages : List (List ℕ)) (ring next : Ring) (a : Admitted) (more : List Admitted) → Some a ≡ slice_get more 0 → RingRepresents pages ring more → ((rest : List Admitted) → RingRepresents pages ring (a ∷ rest) → RingRepresents pages next rest) → (rest : List Admitted) × RingRepresents pages next rest
taken pages ring next a [] is h pop = cc
taken pages ring next a (b ∷ rest) is h pop = let same : b ≡ a = cc in (rest, pop rest (subst (λ x. RingRepresents pages ring (x ∷ rest)) same h))

pub loop-first-smaller : goal.loop-first-smaller
loop-first-smaller g c =
    let a = c.admission.result.now in
    let place = ap (λ (r : Ring). r.used) c.pop.ensures.place in
    let fits = rw c.in-Some.is at c.in_ok-first.ensures.fits in
    let same = ap (λ (x : Admitted). length (entry x)) c.admission.ensures in
    let long = length-sized (admission_octets a) in
    omega (arith, place, fits, same, long)

pub loop-first-preserved : goal.loop-first-preserved
loop-first-preserved g c =
    let i = c.loop-first.invariant in
    let ring = c.requires.ring in
    let a = c.admission.result.now in
    let is = c.admission.ensures in
    let used = ap (λ (r : Ring). r.used) c.pop.ensures.place in
    let fits = rw c.in-Some.is at c.in_ok-first.ensures.fits in
    let same = ap (λ (x : Admitted). length (entry x)) is in
    let long = length-sized (admission_octets a) in
    let few = i.few in
    let first = rw c.in-Some.is at c.in_ok-first.ensures.first in
    record {
      ring = c.pop.ensures.ring (g.P.Pages.homes c.args.pages.now) i.ring;
      few = omega (arith, used, fits, same, long, few);
      passed = λ start shown are.
          let represents_all = subst (λ x. IsFirst shown c.loop-first.rest x) (sym is) (first start shown (i.same.shown start shown are)) in
          subst (λ r. Passed shown c.args.self.now r (c.loop-first.count + 1)) (sym c.pop.ensures.place) (passed_more shown c.args.self.now c.loop-first.rest c.loop-first.count a ring.start ring.used (i.passed start shown are) represents_all);
      left = λ start shown waits are holds.
          let more = i.left start shown waits are holds in
          let front = sym c.in-Some.is ∙ c.in_ok-first.ensures.front start shown more.0 (i.same.shown start shown are) more.1 in
          taken shown c.loop-first.rest c.pop.new.self a more.0 (ap Some is ∙ front) more.1 (λ rest. c.pop.ensures.popped shown rest);
      same = reads_as g.P.Pages c.args.pages.now c.front.new.pages _ ⊥ (reads_then g.P.Pages c.args.pages.now c.loop-first.pages c.front.new.pages ⊥ _ i.same (λ no. no) c.front.ensures.same) (λ e. no_fault c.front.result c.in_ok-first.field-0 c.in_ok-first.was e) (λ no. absurd no);
    }
