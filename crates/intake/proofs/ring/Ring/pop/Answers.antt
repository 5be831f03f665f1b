use Rattle.std.proofs.Common.{◌≡◌, ◌+◌, ◌-◌, ◌<◌, length, arith, sym, ◌∙◌, ap, subst}
use Rattle.route_model.specs.Admission.{admission_octets}
use Rattle.intake.specs.Ring.{wrapped, entry, size_of, RingRepresents}
use Rattle.intake.proofs.Wrapping.{wrapped_low}
use Rattle.intake.proofs.Entries.{length-sized, holds_later}
use Rattle.intake.proofs.ring.Ring.pop.Goals as goal

pub overflow_sub-self : goal.overflow_sub-self
overflow_sub-self c = omega (arith, c.requires.fits, length-sized (admission_octets c.args.admission.now), c.encoded_len.ensures.len)

pub returns-clause-popped : goal.returns-clause-popped
returns-clause-popped c pages rest holds =
    let old = c.args.self.now in
    let len : length (entry c.args.admission.now) ≡ 4 + c.encoded_len.result = omega (arith, length-sized (admission_octets c.args.admission.now), c.encoded_len.ensures.len) in
    let first : c.wrap-self.result ≡ wrapped (size_of old) (old.first + length (entry c.args.admission.now)) = c.wrap-self.ensures ∙ ap (λ n. wrapped (size_of old) (old.first + n)) (sym len) in
    let p = holds_later pages old c.args.admission.now rest c.requires.start c.requires.used holds in
    subst (λ n. RingRepresents pages (record old { first = n; used = old.used - (4 + c.encoded_len.result) }) rest) (sym first)
    (subst (λ n. RingRepresents pages (record old { first = wrapped (size_of old) (old.first + length (entry c.args.admission.now)); used = old.used - n }) rest) len p)

pub returns-clause-place : goal.returns-clause-place
returns-clause-place c =
    let old = c.args.self.now in
    let len : length (entry c.args.admission.now) ≡ 4 + c.encoded_len.result = omega (arith, length-sized (admission_octets c.args.admission.now), c.encoded_len.ensures.len) in
    let first : c.wrap-self.result ≡ wrapped (size_of old) (old.first + length (entry c.args.admission.now)) = c.wrap-self.ensures ∙ ap (λ n. wrapped (size_of old) (old.first + n)) (sym len) in
    let used = ap (λ n. old.used - n) (sym len) in
    λ i. record { low = old.low; count = old.count; first = first i; used = used i }

pub returns-clause-ring : goal.returns-clause-ring
returns-clause-ring c homes ring =
    let old = c.args.self.now in
    let few = ring.used in
    let len : length (entry c.args.admission.now) ≡ 4 + c.encoded_len.result = omega (arith, length-sized (admission_octets c.args.admission.now), c.encoded_len.ensures.len) in
    record {
      inside = ring.inside;
      small = ring.small;
      few = ring.few;
      start = subst (λ n. n < size_of old) (sym c.wrap-self.ensures) (wrapped_low (size_of old) old.first (4 + c.encoded_len.result) ring.start (omega (arith, c.requires.fits, len)));
      used = omega arith;
    }
