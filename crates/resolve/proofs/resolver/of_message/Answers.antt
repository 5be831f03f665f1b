use Rattle.std.proofs.Common.{ap, Err}
use Rattle.std.proofs.lemmas.Result.{err_from_is_err_and}
use Rattle.bgp_update.specs.Messages.{reported}
use Rattle.resolve.proofs.Admitting.{message_refused}
use Rattle.resolve.proofs.resolver.of_message.Goals as goal

pub returns-in_err-new : goal.returns-in_err-new
returns-in_err-new c =
    let p = err_from_is_err_and c.from_residual-in_err-new.result c.from_residual-in_err-new.ensures.1 in
    rw (p.1, p.2) (message_refused c.args.peer.now c.args.time c.args.width c.args.octets.now (reported c.in_ok-message.message) c.in_ok-changes.changes.items c.in_err-new.field-0.0
    c.in_ok-message.ensures.message.0 c.in_ok-message.ensures.message.1 c.in_ok-changes.ensures
    (record { route = λ e. c.in_err-new.ensures.route_too_large.0 (ap (λ x. Err x) e); long = λ e. c.in_err-new.ensures.admission_too_large.0 (ap (λ x. Err x) e) }))
