use Rattle.std.proofs.Common.{sym, ap, ◌∙◌, List, ℕ}
use Rattle.route_model.specs.Admission.{Admitted}
use Rattle.route_model.specs.inner.Codec.{whole}
use Rattle.route_model.specs.inner.Codec.Admissions.{admission_at}
use Rattle.route_model.proofs.Fields.{some_is}
use Rattle.route_model.proofs.Prefixes.{prefix_again}
use Rattle.route_model.proofs.Whole.{admission_only, compared, none_some}
use Rattle.route_model.proofs.admission.Admission.decode.Goals as goal

pub returns-in-Ok-clause-only : goal.returns-in-Ok-clause-only
returns-in-Ok-clause-only c = λ a encodes.
    let read = ap (λ (t : List ℕ). whole (admission_at t)) encodes.encoded ∙ admission_only prefix_again a encodes.valid in
    let x : Admitted = record { time = c.in-Ok.time; changes = c.in-Ok.changes.items } in
    compared c.encoded_so.result x a c.args.octets.now c.encoded_so.ensures.same c.encoded_so.ensures.none (some_is x a (sym c.in-Ok.ensures ∙ read)) encodes

pub returns-in-Err-Unencoded-clause-only : goal.returns-in-Err-Unencoded-clause-only
returns-in-Err-Unencoded-clause-only c = λ a encodes.
    let read = ap (λ (t : List ℕ). whole (admission_at t)) encodes.encoded ∙ admission_only prefix_again a encodes.valid in
    absurd (none_some (whole (admission_at c.args.octets.now)) a (rw c.in-Err-Unencoded.field-0-is at c.in-Err-Unencoded.ensures) read)
