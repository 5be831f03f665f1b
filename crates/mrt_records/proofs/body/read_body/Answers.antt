use Rattle.std.proofs.lemmas.Result.{err_from_is_err_and}
use Rattle.mrt_records.proofs.Bodies.{reported_message, reported_state_change, reported_rib}
use Rattle.mrt_records.proofs.body.read_body.Goals as goal

pub returns-in_err-peer-in-Message : goal.returns-in_err-peer-in-Message
returns-in_err-peer-in-Message c =
    let p = err_from_is_err_and c.from_residual.result c.from_residual.ensures.1 in
    rw (p.1, p.2) (reported_message c.args.form c.in-Message.width c.args.time c.args.bytes.now c.in_err-peer-in-Message.field-0.0 c.in-Message.is c.in_err-peer-in-Message.ensures)

pub returns-in_default : goal.returns-in_default
returns-in_default c = λ v q. reported_state_change c.args.form c.in-StateChange.width c.args.time c.args.bytes.now v c.in-StateChange.is c.in_default.ensures.none q

pub returns-in_err-prefix-in-Rib : goal.returns-in_err-prefix-in-Rib
returns-in_err-prefix-in-Rib c =
    let p = err_from_is_err_and c.from_residual-in_err-prefix-in-Rib.result c.from_residual-in_err-prefix-in-Rib.ensures.1 in
    rw (p.1, p.2) (reported_rib c.args.form c.in-Rib.family c.args.time c.args.bytes.now c.in_err-prefix-in-Rib.field-0.0 c.in-Rib.is c.in_err-prefix-in-Rib.ensures)
