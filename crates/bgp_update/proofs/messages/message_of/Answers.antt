use Rattle.std.proofs.Common.{ℕ, List, subst}
use Rattle.std.proofs.lemmas.Result.{err_from_is_err_and}
use Rattle.route_model.specs.Reading.{NoReading}
use Rattle.bgp_update.specs.Messages.{IsUpdate}
use Rattle.bgp_update.proofs.api.Reported.{no_header, no_update}
use Rattle.bgp_update.proofs.messages.message_of.Goals as goal

pub returns-in_default-clause-message : goal.returns-in_default-clause-message
returns-in_default-clause-message c = λ m q. no_header c.args.width c.args.bytes.now c.in_default.ensures.none m q

pub returns-in_err-update-clause-message : goal.returns-in_err-update-clause-message
returns-in_err-update-clause-message c =
    let p = err_from_is_err_and c.from_residual.result c.from_residual.ensures.1 in
    let none = subst (λ (t : List ℕ). NoReading (IsUpdate c.args.width t) c.in_err-update.field-0.0) c.split_at.ensures.back c.in_err-update.ensures in
    rw (p.1, p.2) (no_update c.args.width c.args.bytes.now c.in-Some.kind c.in_err-update.field-0.0 c.in-Some.ensures.found c.if-kind-eq-UPDATE.true none)
