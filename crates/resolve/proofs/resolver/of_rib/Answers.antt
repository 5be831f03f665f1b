use Rattle.std.proofs.Common.{ap, arith, Err}
use Rattle.std.proofs.lemmas.Result.{err_from_is_err_and}
use Rattle.resolve.proofs.Admitting.{rib_refused}
use Rattle.resolve.proofs.Announcing.{some_left}
use Rattle.resolve.proofs.resolver.of_rib.Goals as goal

pub returns-in_err-new : goal.returns-in_err-new
returns-in_err-new c =
    let p = err_from_is_err_and c.from_residual-in_err-new.result c.from_residual-in_err-new.ensures.1 in
    let some = some_left c.args.entries.now c.in_ok-changes.changes.items (λ none. let yes = c.are_all_left_out.ensures.1 none in let no = c.if-are_all_left_out.false in absurd cc) in
    rw (p.1, p.2) (rib_refused c.args.rule c.args.collector c.args.peers.now c.args.time c.args.prefix.now c.args.entries.now c.in_ok-changes.changes.items c.in_err-new.field-0.0
    (c.in_ok-changes.ensures, some) (record { route = λ e. c.in_err-new.ensures.route_too_large.0 (ap (λ x. Err x) e); long = λ e. c.in_err-new.ensures.admission_too_large.0 (ap (λ x. Err x) e) }))

pub returns : goal.returns
returns c =
    let some = some_left c.args.entries.now c.in_ok-changes.changes.items (λ none. let yes = c.are_all_left_out.ensures.1 none in let no = c.if-are_all_left_out.false in absurd cc) in
    let made = c.in_ok-new.ensures in
    (c.in_ok-changes.changes.items, (c.in_ok-changes.ensures, some), made.admission, λ long. let small = made.valid.small in omega (arith, small, long))
