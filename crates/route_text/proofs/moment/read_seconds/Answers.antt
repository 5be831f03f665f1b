use Rattle.std.proofs.Common.{arith}
use Rattle.std.proofs.lemmas.Result.{err_from_is_err_and}
use Rattle.route_text.proofs.Seconds.{whole_none, parts_of, parts_above}
use Rattle.route_text.proofs.moment.read_seconds.Goals as goal

pub returns-in_err-second-clause-none : goal.returns-in_err-second-clause-none
returns-in_err-second-clause-none c =
    let p = err_from_is_err_and c.from_residual.result c.from_residual.ensures.1 in
    rw p.1 (whole_none c.args.last c.args.text.now c.in_default.ensures.none c.in_err-second.ensures.none)

pub returns-in_err-micros-clause-none : goal.returns-in_err-micros-clause-none
returns-in_err-micros-clause-none c =
    let p = err_from_is_err_and c.from_residual-in_err-micros.result c.from_residual-in_err-micros.ensures.1 in
    rw p.1 (λ moment within h.
    let parts = parts_of c.args.last (omega (arith, c.ranges.last.fits)) c.args.text.now c.in-Some.whole.now c.in-Some.digits.now c.in-Some.ensures.parts c.in-Some.ensures.first moment within h in
    c.in_err-micros.ensures.none parts.micros parts.fraction)

pub returns-in_err-second-2-clause-none : goal.returns-in_err-second-2-clause-none
returns-in_err-second-2-clause-none c =
    let p = err_from_is_err_and c.from_residual-in_err-second-2.result c.from_residual-in_err-second-2.ensures.1 in
    rw p.1 (λ moment within h.
    let parts = parts_of c.args.last (omega (arith, c.ranges.last.fits)) c.args.text.now c.in-Some.whole.now c.in-Some.digits.now c.in-Some.ensures.parts c.in-Some.ensures.first moment within h in
    let value = parts.value in
    c.in_err-second-2.ensures.none parts.second (omega (arith, within, value)) parts.is_whole)

pub returns-then-last-moment-clause-none : goal.returns-then-last-moment-clause-none
returns-then-last-moment-clause-none c = λ moment within h.
    parts_above c.args.last moment c.in_ok-second-2.second c.in_ok-micros.micros c.in-Some.whole.now c.in-Some.digits.now
    (let most = c.in_ok-second-2.ensures.in_range in omega (arith, most, c.ranges.last.fits)) c.in_ok-second-2.ensures.found c.in_ok-micros.ensures.found c.if-last-moment.true within
    (parts_of c.args.last (omega (arith, c.ranges.last.fits)) c.args.text.now c.in-Some.whole.now c.in-Some.digits.now c.in-Some.ensures.parts c.in-Some.ensures.first moment within h)
