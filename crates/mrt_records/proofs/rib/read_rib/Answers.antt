use Rattle.std.proofs.Common.{◌≡◌, List, length}
use Rattle.std.proofs.lemmas.Result.{err_from_is_err_and}
use Rattle.route_model.specs.Sequence.{Sequence}
use Rattle.route_model.specs.Prefix.{IpPrefix}
use Rattle.route_model.proofs.api.Readings.{no_reading_of_part}
use Rattle.mrt_records.specs.Entries.{Entry, IsEntryField}
use Rattle.mrt_records.specs.Ribs.{IsRib}
use Rattle.mrt_records.proofs.Bodies.{rib_begins, rib_short, rib_entries}
use Rattle.mrt_records.proofs.rib.read_rib.Goals as goal

pub returns-in_default : goal.returns-in_default
returns-in_default c = λ r q. c.in_default.ensures.front (rib_begins c.args.family c.args.bytes.now c.split_at.result.1.now r.0 r.1 c.split_at.ensures.back q)

pub returns-then-rest-lt2 : goal.returns-then-rest-lt2
returns-then-rest-lt2 c = λ r q.
    rib_short c.args.family c.args.bytes.now c.split_at.result.1.now c.split_at-2.result.1.now _ _ r.0 r.1 c.split_at.ensures.back c.split_at-2.ensures.back
    c.in-Some.ensures.front.2 c.if-rest-lt2.true q

pub returns-in_err-entries : goal.returns-in_err-entries
returns-in_err-entries c =
    let p = err_from_is_err_and c.from_residual.result c.from_residual.ensures.1 in
    rw (p.1, p.2) (no_reading_of_part (λ (e : List Entry). Sequence IsEntryField c.split_at-3.result.1.now e × length e ≡ c.u16_at.result)
    (λ (r : IpPrefix × List Entry). IsRib c.args.family c.args.bytes.now r.0 r.1) (λ (r : IpPrefix × List Entry). r.1)
    (λ r q. rib_entries c.args.family c.args.bytes.now c.split_at.result.1.now c.split_at-2.result.1.now c.split_at-3.result.1.now _ c.u16_at.result _ r.0 r.1
    c.split_at.ensures.back c.split_at-2.ensures.back c.split_at-3.ensures.back c.u16_at.ensures.number c.in-Some.ensures.front.2 q)
    c.in_err-entries.field-0.0 c.in_err-entries.ensures)
