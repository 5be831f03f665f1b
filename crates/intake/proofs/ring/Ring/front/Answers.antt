use Rattle.std.proofs.Common.{◌≡◌, List, length, take, drop, arith, sym, ◌∙◌, ap}
use Rattle.std.specs.List.{flat_map, slice_get}
use Rattle.route_model.specs.Admission.{Admitted, admission_octets}
use Rattle.intake.specs.Ring.{entry}
use Rattle.intake.proofs.Entries.{first_there, first_len, first_encoded, length-sized, none_there}
use Rattle.intake.proofs.Representing.{used_octets, used_length, used_stand, first_stands, begins, length_reported}
use Rattle.intake.proofs.ring.Ring.front.Goals as goal

pub returns-then-self-eq0-clause-front : goal.returns-then-self-eq0-clause-front
returns-then-self-eq0-clause-front g c start shown waits are holds = none_there shown c.args.self.now waits c.if-self-eq0.true holds

pub returns-then-self-lt4-clause-damaged : goal.returns-then-self-lt4-clause-damaged
returns-then-self-lt4-clause-damaged g c page is start shown waits are holds =
    let ne = c.if-self-eq0.false in
    let f = first_there shown c.args.self.now waits (omega (arith, ne)) holds in
    let fits = f.fits in
    absurd (omega (arith, c.if-self-lt4.true))

pub returns-then-from-min-clause-damaged : goal.returns-then-from-min-clause-damaged
returns-then-from-min-clause-damaged g c page is start shown waits are holds =
    let ne = c.if-self-eq0.false in
    let f = first_there shown c.args.self.now waits (omega (arith, ne)) holds in
    let fits = f.fits in
    let len : c.number-len.result ≡ length (admission_octets f.a) =
    c.number-len.ensures.number ∙ first_len c.args.self.now waits c.deref.result.now f (c.deref.ensures.value ∙ c.in_ok-size.ensures.read start shown (flat_map entry waits) are holds.size holds.octets) in
    let small = f.valid.small in
    absurd (omega (arith, c.if-from-min.true, c.min.ensures, c.from.ensures, len))

pub returns-in_default-clause-damaged : goal.returns-in_default-clause-damaged
returns-in_default-clause-damaged g c page is start shown waits are holds =
    let ne = c.if-self-eq0.false in
    let f = first_there shown c.args.self.now waits (omega (arith, ne)) holds in
    let len : c.number-len.result ≡ length (admission_octets f.a) =
    c.number-len.ensures.number ∙ first_len c.args.self.now waits c.deref.result.now f (c.deref.ensures.value ∙ c.in_ok-size.ensures.read start shown (flat_map entry waits) are holds.size holds.octets) in
    let encoded = first_encoded c.args.self.now waits c.number-len.result c.in_ok-octets.octets.items f len
    (c.in_ok-octets.ensures.read start shown (flat_map entry waits) (c.read.ensures.same.shown start shown are) holds.size holds.octets) in
    let only = c.in_ok-admission.ensures.only f.a encoded in
    absurd (c.in_default.not-Some f.a only)

pub returns-clause-front : goal.returns-clause-front
returns-clause-front g c start shown waits are holds =
    let ne = c.if-self-eq0.false in
    let f = first_there shown c.args.self.now waits (omega (arith, ne)) holds in
    let len : c.number-len.result ≡ length (admission_octets f.a) =
    c.number-len.ensures.number ∙ first_len c.args.self.now waits c.deref.result.now f (c.deref.ensures.value ∙ c.in_ok-size.ensures.read start shown (flat_map entry waits) are holds.size holds.octets) in
    let encoded = first_encoded c.args.self.now waits c.number-len.result c.in_ok-octets.octets.items f len
    (c.in_ok-octets.ensures.read start shown (flat_map entry waits) (c.read.ensures.same.shown start shown are) holds.size holds.octets) in
    let only = c.in_ok-admission.ensures.only f.a encoded in
    sym c.in-Some.is ∙ (only ∙ ap (λ (l : List Admitted). slice_get l 0) (sym f.is))

pub returns-clause-fits : goal.returns-clause-fits
returns-clause-fits g c =
    let encoded = rw c.in-Some.is at c.in_ok-admission.ensures.found in
    let len = ap length encoded.encoded in
    omega (arith, len, c.in_ok-octets.ensures.len, c.if-from-min.false, c.min.ensures, c.from.ensures, c.if-self-lt4.false, length-sized (admission_octets c.in-Some.admission))

pub returns-then-self-lt4-clause-no_first : goal.returns-then-self-lt4-clause-no_first
returns-then-self-lt4-clause-no_first g c page is start shown a are first =
    let stood = used_octets shown c.args.self.now in
    let b = begins shown c.args.self.now a stood (used_length shown c.args.self.now) (used_stand shown c.args.self.now) first in
    let fits = b.fits in
    absurd (omega (arith, c.if-self-lt4.true))

pub returns-then-from-min-clause-no_first : goal.returns-then-from-min-clause-no_first
returns-then-from-min-clause-no_first g c page is start shown a are first =
    let ring = c.args.self.now in
    let stood = used_octets shown ring in
    let long = used_length shown ring in
    let stand = used_stand shown ring in
    let b = begins shown ring a stood long stand first in
    let small = first.valid.small in
    let fits = b.fits in
    let len = length_reported a c.number-len.result stood c.deref.result.now small b.size (c.deref.ensures.value ∙ c.in_ok-size.ensures.read start shown stood are long stand) c.number-len.ensures.number in
    absurd (omega (arith, c.if-from-min.true, c.min.ensures, c.from.ensures, len))

pub returns-in_default-clause-no_first : goal.returns-in_default-clause-no_first
returns-in_default-clause-no_first g c page is start shown a are first =
    let ring = c.args.self.now in
    let stood = used_octets shown ring in
    let long = used_length shown ring in
    let stand = used_stand shown ring in
    let b = begins shown ring a stood long stand first in
    let len = length_reported a c.number-len.result stood c.deref.result.now first.valid.small b.size (c.deref.ensures.value ∙ c.in_ok-size.ensures.read start shown stood are long stand) c.number-len.ensures.number in
    let octets : c.in_ok-octets.octets.items ≡ admission_octets a =
    c.in_ok-octets.ensures.read start shown stood (c.read.ensures.same.shown start shown are) long stand ∙ (ap (λ n. take n (drop 4 stood)) len ∙ b.octets) in
    let only = c.in_ok-admission.ensures.only a (record { valid = first.valid; encoded = octets }) in
    absurd (c.in_default.not-Some a only)

pub returns-clause-first : goal.returns-clause-first
returns-clause-first g c start shown are =
    let ring = c.args.self.now in
    let stood = used_octets shown ring in
    let long = used_length shown ring in
    let stand = used_stand shown ring in
    let encoded = rw c.in-Some.is at c.in_ok-admission.ensures.found in
    first_stands shown ring c.in-Some.admission c.number-len.result c.deref.result.now c.in_ok-octets.octets.items stood stand
    (c.deref.ensures.value ∙ c.in_ok-size.ensures.read start shown stood are long stand)
    (c.in_ok-octets.ensures.read start shown stood (c.read.ensures.same.shown start shown are) long stand)
    c.number-len.ensures.octets c.in_ok-octets.ensures.len
    (omega (arith, c.if-from-min.false, c.min.ensures, c.from.ensures, c.if-self-lt4.false)) encoded
