use Rattle.std.proofs.Common.{◌∙◌, ◌+◌, ◌*◌}
use Rattle.mrt_records.proofs.Bodies.{malformed_body}
use Rattle.mrt_records.proofs.body.item_of.Goals as goal

pub returns-in-Err-Malformed : goal.returns-in-Err-Malformed
returns-in-Err-Malformed c =
    malformed_body c.args.bytes.now c.body_of.result.now c.u16_at-kind.result c.u16_at-subtype.result c.within-time.result c.in-Some.form c.in-Err-Malformed.field-0
    c.u16_at-kind.ensures.number c.u16_at-subtype.ensures.number (c.within-time.ensures ∙ (λ k. c.u32_at.ensures.number k * 1000000 + c.micros_of.ensures.micros k)) c.body_of.ensures.body c.in-Some.ensures.listed
    c.in-Err-Malformed.ensures c.in-Err-Malformed.field-0-is
