use Rattle.std.proofs.Common.{arith}
use Rattle.std.proofs.lemmas.Result.{err_from_is_err_and}
use Rattle.route_text.proofs.Numbers.{value_below}
use Rattle.route_text.proofs.Seconds.{unit_fits}
use Rattle.route_text.proofs.moment.read_fraction.Goals as goal

pub returns-in_err-value-clause-none : goal.returns-in_err-value-clause-none
returns-in_err-value-clause-none c =
    let p = err_from_is_err_and c.from_residual.result c.from_residual.ensures.1 in
    rw p.1 (λ micros h. c.in_err-value.ensures.none (h.some, h.are) (let small = value_below c.args.digits.now 6 h.are h.few in omega (arith, small)))

pub overflow_mul-result : goal.overflow_mul-result
overflow_mul-result c =
    let small = unit_fits _ c.in_ok-value.value c.in-Some.unit c.in-Some.ensures.some c.in-Some.ensures.few c.in-Some.ensures.unit
    (rw c.in_ok-value.ensures.value (value_below c.args.digits.now _ c.in_ok-value.ensures.digits (omega arith))) in
    omega (arith, small)

pub returns-clause-within : goal.returns-clause-within
returns-clause-within c =
    unit_fits _ c.in_ok-value.value c.in-Some.unit c.in-Some.ensures.some c.in-Some.ensures.few c.in-Some.ensures.unit
    (rw c.in_ok-value.ensures.value (value_below c.args.digits.now _ c.in_ok-value.ensures.digits (omega arith)))
